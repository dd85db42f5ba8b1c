-- Postings.
--
-- posting = ["*"|"!"] account [expression] [currency] [cost] [price]
use Rattle.std.specs.Prelude.{ℕ, Bool, true, false, ◌&&◌, ◌||◌, not, List, ◌∷◌, Option, Some}
use Rattle.std.specs.Prelude.{None}
use Rattle.theory.specs.Form.{Form, word, made, ◌<+>◌, due}
use Rattle.bean_base.specs.declared.flags.Flag as flags
use Rattle.bean_base.specs.declared.flags.Flag.TheVariants.{Complete, Incomplete}
use Rattle.bean_base.specs.declared.num.Num.{Num}
use Rattle.bean_lexer.specs.declared.kind.Sign.TheVariants.{Star, Bang}
use Rattle.bean_grammar.specs.declared.amount.AmountParts.{AmountParts}
use Rattle.bean_postings.specs.declared.cost.Cost as costs
use Rattle.bean_postings.specs.declared.cost.Cost.TheVariants as cost_kind
use Rattle.bean_postings.specs.declared.price.Price as prices
use Rattle.bean_postings.specs.declared.price.Price.TheVariants as price_kind
use Rattle.bean_postings.specs.declared.posting.Posting as postings
use Rattle.bean_postings.specs.declared.posting.Units as units_declared
use Rattle.bean_postings.specs.declared.posting.Units.TheVariants.{Missing, Currency, Amount}
use Rattle.bean_postings.specs.declared.posting.Units.TheVariants.{NumberAlone}
use Rattle.bean_grammar.specs.declared.ranged.Ranged.{Ranged}
use Rattle.bean_grammar.specs.declared.ranged.Ranged.TheVariants.{Within}
use Rattle.bean_grammar.specs.Amount.{amount_parts}
use Rattle.bean_postings.specs.Cost.{cost_if_due}
use Rattle.bean_postings.specs.Details.{on_line}
use Rattle.bean_postings.specs.declared.details.DetailParts.{DetailParts}
use Rattle.bean_grammar.specs.Lexeme.{Lexeme, Account, Sign}
use Rattle.bean_postings.specs.Price.{price_if_due}
use Rattle.bean_grammar.specs.Ranged.{ranged_map, ranged_map3}

abbrev pub flag_sign : flags.Flag → Lexeme
flag_sign Complete = Sign Star
flag_sign Incomplete = Sign Bang

abbrev pub begins_with_flag_sign : List Lexeme → Bool
begins_with_flag_sign (Sign Star ∷ rest) = true
begins_with_flag_sign (Sign Bang ∷ rest) = true
begins_with_flag_sign rest = false

abbrev pub flag_if_due : Form Lexeme (Option flags.Flag)
flag_if_due = due begins_with_flag_sign (word flag_sign)

abbrev pub units_by : Option (Ranged Num) → Option (List ℕ) → Ranged units_declared.Units
units_by None None = Within Missing
units_by None (Some c) = Within (Currency c)
units_by (Some n) None = ranged_map (λ x. NumberAlone) n
units_by (Some n) (Some c) = ranged_map (λ x. Amount record { number = x; currency = c }) n

abbrev pub units_of : AmountParts → Ranged units_declared.Units
units_of parts = units_by parts.number parts.currency

abbrev pub units : Form Lexeme (Ranged units_declared.Units)
units = made units_of <+> amount_parts

-- in range where its units, its cost and its price are; entries are no part of its line
abbrev pub posting_of : ℕ → Option flags.Flag → List ℕ → Ranged units_declared.Units
    → Ranged costs.Cost → Ranged prices.Price → Ranged postings.Posting
posting_of line flag account units cost price =
    ranged_map3
    (λ u c p. record {
      account = account;
      units = u;
      details = on_line line flag c p;
    })
    units cost price

-- the front of a posting on a line of that number, up to its units
abbrev pub posted_to : ℕ
    → Form Lexeme (Ranged costs.Cost → Ranged prices.Price → Ranged postings.Posting)
posted_to line = made (posting_of line) <+> flag_if_due <+> word Account <+> units

abbrev pub posting : ℕ → Form Lexeme (Ranged postings.Posting)
posting line = posted_to line <+> cost_if_due <+> price_if_due

-- Which postings the books don't have.

abbrev pub has_number : units_declared.Units → Bool
has_number (Amount a) = true
has_number u = false

abbrev pub is_number_alone : units_declared.Units → Bool
is_number_alone NumberAlone = true
is_number_alone u = false

abbrev pub is_left_out : costs.Cost → prices.Price → Bool
is_left_out cost_kind.OutsideProfile p = true
is_left_out c price_kind.OutsideProfile = true
is_left_out c p = false

abbrev pub is_written : costs.Cost → prices.Price → Bool
is_written cost_kind.Absent price_kind.Absent = false
is_written c p = true

-- a number without a currency, a cost or a price outside the profile, and units without a number
-- before a cost or a price
abbrev pub are_outside_profile : units_declared.Units → DetailParts → Bool
are_outside_profile units details =
    is_number_alone units
    || (is_left_out details.cost details.price
    || (not (has_number units) && is_written details.cost details.price))

abbrev pub is_outside_profile : postings.Posting → Bool
is_outside_profile p = are_outside_profile p.units p.details
