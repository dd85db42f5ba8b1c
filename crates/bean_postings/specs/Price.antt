-- The prices of postings.
--
-- price = ("@"|"@@") [expression] [currency]     without both it is outside the profile
use Rattle.std.specs.Prelude.{ℕ, Bool, true, false, List, ◌∷◌, Option, Some, None}
use Rattle.theory.specs.Form.{Form, word, made, ◌<+>◌, due}
use Rattle.bean_base.specs.declared.amounts.Amount.{Amount}
use Rattle.bean_base.specs.declared.num.Num.{Num}
use Rattle.bean_lexer.specs.declared.kind.Sign.TheVariants.{At, AtAt}
use Rattle.bean_grammar.specs.declared.amount.AmountParts.{AmountParts}
use Rattle.bean_postings.specs.declared.price.Price as prices
use Rattle.bean_postings.specs.declared.price.Price.TheVariants.{Absent, PerUnit, Total}
use Rattle.bean_postings.specs.declared.price.Price.TheVariants.{OutsideProfile}
use Rattle.bean_grammar.specs.declared.ranged.Ranged.{Ranged}
use Rattle.bean_grammar.specs.declared.ranged.Ranged.TheVariants.{Within}
use Rattle.bean_grammar.specs.Amount.{amount_parts}
use Rattle.bean_grammar.specs.Lexeme.{Lexeme, Sign}
use Rattle.bean_grammar.specs.Ranged.{ranged_map}

-- true where the price is that of all units
abbrev pub price_sign : Bool → Lexeme
price_sign false = Sign At
price_sign true = Sign AtAt

abbrev pub begins_with_price : List Lexeme → Bool
begins_with_price (Sign At ∷ rest) = true
begins_with_price (Sign AtAt ∷ rest) = true
begins_with_price rest = false

abbrev pub priced : Bool → Amount → prices.Price
priced false amount = PerUnit amount
priced true amount = Total amount

abbrev pub price_by : Bool → Option (Ranged Num) → Option (List ℕ) → Ranged prices.Price
price_by is_total (Some n) (Some c) =
    ranged_map (λ x. priced is_total record { number = x; currency = c }) n
price_by is_total (Some n) None = ranged_map (λ x. OutsideProfile) n
price_by is_total None c = Within OutsideProfile

abbrev pub price_of : Bool → AmountParts → Ranged prices.Price
price_of is_total parts = price_by is_total parts.number parts.currency

abbrev pub price : Form Lexeme (Ranged prices.Price)
price = made price_of <+> word price_sign <+> amount_parts

-- a price that isn't written is absent
abbrev pub price_or_absent : Option (Ranged prices.Price) → Ranged prices.Price
price_or_absent (Some p) = p
price_or_absent None = Within Absent

abbrev pub price_if_due : Form Lexeme (Ranged prices.Price)
price_if_due = made price_or_absent <+> due begins_with_price price
