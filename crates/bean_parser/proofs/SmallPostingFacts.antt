-- Costs, prices and posting lines are small where their lexemes are short.
use Rattle.std.proofs.Common.{ℕ, ◌≤◌, ◌≡◌, Bool, true, false, cond, List, Option, Some, None}
use Rattle.std.proofs.Common.{IfSome, subst}
use Rattle.theory.specs.Form.{word, made, ◌<+>◌, behind, closed, due, either}
use Rattle.bean_base.specs.declared.amounts.Amount as amounts
use Rattle.bean_base.specs.declared.days.Day as days
use Rattle.bean_base.specs.declared.flags.Flag as flags
use Rattle.bean_base.specs.declared.num.Num.{Num}
use Rattle.bean_lexer.specs.declared.kind.Sign.TheVariants.{Star, Hash, Comma}
use Rattle.bean_postings.specs.declared.cost.Cost as costs
use Rattle.bean_postings.specs.declared.cost.Cost.TheVariants as cost_kind
use Rattle.bean_postings.specs.declared.cost_part.CostPart as parts
use Rattle.bean_postings.specs.declared.cost_part.CostPart.TheVariants as cost_part
use Rattle.bean_postings.specs.declared.cost_part.CostParts.{CostParts}
use Rattle.bean_postings.specs.declared.posting.Posting as postings
use Rattle.bean_postings.specs.declared.posting.Units as units_declared
use Rattle.bean_postings.specs.declared.posting.Units.TheVariants as units_kind
use Rattle.bean_postings.specs.declared.price.Price as prices
use Rattle.bean_postings.specs.declared.price.Price.TheVariants as price_kind
use Rattle.bean_grammar.specs.declared.ranged.Ranged.{Ranged}
use Rattle.bean_grammar.specs.declared.ranged.Ranged.TheVariants.{Outside}
use Rattle.bean_grammar.specs.Amount.{amount_parts, number_if_due, currency_if_due}
use Rattle.bean_postings.specs.Cost.{opening, closing, is_outside_profile, others_fit, cost_with}
use Rattle.bean_postings.specs.Cost.{cost_of, braced, cost_in, cost, begins_with_cost}
use Rattle.bean_postings.specs.Cost.{cost_or_absent, cost_if_due}
use Rattle.bean_postings.specs.CostPart.{number_part_of, compound_if_due, itself, number_part}
use Rattle.bean_postings.specs.CostPart.{merge}
use Rattle.bean_postings.specs.CostPart.{part, no_parts, placed, put, put_first, another_part}
use Rattle.bean_postings.specs.CostPart.{row_of_parts, cost_parts}
use Rattle.bean_postings.specs.Details.{on_line}
use Rattle.bean_grammar.specs.Lexeme.{Account, Sign, begins_with_sign}
use Rattle.bean_grammar.specs.Literal.{day, text}
use Rattle.bean_postings.specs.Posting.{flag_sign, begins_with_flag_sign, flag_if_due, units_by}
use Rattle.bean_postings.specs.Posting.{units_of, units, posting_of, posted_to, posting}
use Rattle.bean_postings.specs.Price.{price_sign, begins_with_price, priced, price_by, price_of}
use Rattle.bean_postings.specs.Price.{price, price_or_absent, price_if_due}
use Rattle.bean_grammar.specs.Ranged.{ranged_map2, option_within}
use Rattle.bean_directives.specs.SmallPart.{most, IsShort, IsShortCurrency, AreShortUnits, IsShortCost}
use Rattle.bean_directives.specs.SmallPart.{IsShortPrice, IsSmallPosting}
use Rattle.bean_parser.proofs.SmallKeeping.{keeps_word, keeps_made, keeps_applied, keeps_behind}
use Rattle.bean_parser.proofs.SmallKeeping.{keeps_closed, keeps_checked, keeps_due, keeps_either}
use Rattle.bean_parser.proofs.SmallKeeping.{keeps_row}
use Rattle.bean_parser.proofs.ShortFacts.{Any, WhenWithin, any_within, mapped_any, mapped2, mapped3}
use Rattle.bean_parser.proofs.ShortFacts.{option_short}
use Rattle.bean_parser.proofs.SmallLineFacts.{Gives, account_kept, text_kept, day_kept, IsShortAmount}
use Rattle.bean_parser.proofs.SmallLineFacts.{amount_short, number_if_due_kept, currency_if_due_kept}
use Rattle.bean_parser.proofs.SmallLineFacts.{amount_parts_kept}

-- The parts of a cost.

abbrev IsShortPart : parts.CostPart → Type 0
IsShortPart (cost_part.Amount a) = WhenWithin IsShortAmount a
IsShortPart (cost_part.Label text) = IsShort text
IsShortPart p = Unit {0}

abbrev AreShortParts : CostParts → Type 0
AreShortParts p = IfSome p.amount (WhenWithin IsShortAmount) × IfSome p.label IsShort

number_part_short : (n : Option (Ranged Num)) (m : Option (Option (Ranged Num)))
    (c : Option (List ℕ)) → IfSome c IsShortCurrency → IfSome (number_part_of n m c) IsShortPart
number_part_short (Some n) None (Some c) h = amount_short n c h
number_part_short (Some n) None None h = tt
number_part_short None None (Some c) h = tt
number_part_short None None None h = tt
number_part_short (Some n) (Some m) c h = tt
number_part_short None (Some m) c h = tt

compound_kept : Gives (λ o. IfSome o (λ p. IfSome p Any)) compound_if_due
compound_kept =
    keeps_due (begins_with_sign Hash) (behind (Sign Hash) number_if_due)
    (keeps_behind (Sign Hash) number_if_due number_if_due_kept)

there : {A : Type 0} (S : A → Type 0) (o : Option A) (a : A) → IfSome o S → o ≡ Some a → S a
there S o a h is = subst (λ p. IfSome p S) is h

number_part_kept : Gives IsShortPart number_part
number_part_kept =
    keeps_checked itself
    (made number_part_of <+> number_if_due <+> compound_if_due <+> currency_if_due)
    (keeps_applied (made number_part_of <+> number_if_due <+> compound_if_due) currency_if_due
    currency_if_due_kept
    (keeps_applied (made number_part_of <+> number_if_due) compound_if_due compound_kept
    (keeps_applied (made number_part_of) number_if_due number_if_due_kept
    (keeps_made number_part_of (λ n any m other c h. number_part_short n m c h)))))
    (λ o p h is. there IsShortPart o p h is)

day_part_kept : Gives IsShortPart (made cost_part.Day <+> day)
day_part_kept =
    keeps_applied (made cost_part.Day) day day_kept (keeps_made cost_part.Day (λ d any. tt))

label_kept : Gives IsShortPart (made cost_part.Label <+> text)
label_kept =
    keeps_applied (made cost_part.Label) text text_kept (keeps_made cost_part.Label (λ t h. h))

merge_kept : Gives IsShortPart merge
merge_kept = keeps_behind (Sign Star) (made cost_part.Merge) (keeps_made cost_part.Merge tt)

part_kept : Gives IsShortPart part
part_kept =
    keeps_either (made cost_part.Day <+> day)
    (either (made cost_part.Label <+> text) (either merge number_part)) day_part_kept
    (keeps_either (made cost_part.Label <+> text) (either merge number_part) label_kept
    (keeps_either merge number_part merge_kept number_part_kept))

placed_short : {A : Type 0} (o : Option A) (a : A) (set : Option A → CostParts)
    → AreShortParts (set (Some a)) → IfSome (placed o a set) AreShortParts
placed_short None a set h = h
placed_short (Some b) a set h = tt

put_short : (o : Option CostParts) (p : parts.CostPart) → IfSome o AreShortParts → IsShortPart p
    → IfSome (put o p) AreShortParts
put_short None p h k = tt
put_short (Some c) (cost_part.Amount a) h k =
    placed_short c.amount a (λ x. record c { amount = x }) (k, h.1)
put_short (Some c) (cost_part.Day d) h k = placed_short c.day d (λ x. record c { day = x }) h
put_short (Some c) (cost_part.Label t) h k =
    placed_short c.label t (λ x. record c { label = x }) (h.0, k)
put_short (Some c) (cost_part.NumberAlone b) h k =
    placed_short c.number b (λ x. record c { number = x }) h
put_short (Some c) cost_part.CurrencyAlone h k =
    placed_short c.currency true (λ x. record c { currency = x }) h
put_short (Some c) cost_part.Merge h k = placed_short c.merge true (λ x. record c { merge = x }) h
put_short (Some c) (cost_part.Compound b) h k =
    placed_short c.compound b (λ x. record c { compound = x }) h

cost_parts_kept : Gives AreShortParts cost_parts
cost_parts_kept =
    keeps_checked itself row_of_parts
    (keeps_row (begins_with_sign Comma) part put_first another_part put part_kept
    (keeps_behind (Sign Comma) part part_kept) (λ p h. put_short (Some no_parts) p (tt, tt) h)
    put_short)
    (λ o p h is. there AreShortParts o p h is)

-- Costs.

braced_kept : (is_total : Bool) → Gives AreShortParts (braced is_total)
braced_kept is_total =
    keeps_behind (Sign (opening is_total))
    (either (behind (Sign (closing is_total)) (made no_parts))
    (closed (Sign (closing is_total)) cost_parts))
    (keeps_either (behind (Sign (closing is_total)) (made no_parts))
    (closed (Sign (closing is_total)) cost_parts)
    (keeps_behind (Sign (closing is_total)) (made no_parts) (keeps_made no_parts (tt, tt)))
    (keeps_closed (Sign (closing is_total)) cost_parts cost_parts_kept))

abbrev lot_of : Bool → CostParts → Option amounts.Amount → Option days.Day → costs.Cost
lot_of b p amount when =
    cond b cost_kind.OutsideProfile
    (cost_kind.Lot record { amount = amount; day = when; label = p.label })

lot_short : (b : Bool) (p : CostParts) (amount : Option amounts.Amount) (when : Option days.Day)
    → IfSome amount IsShortAmount → IfSome p.label IsShort → IsShortCost (lot_of b p amount when)
lot_short true p amount when h k = tt
lot_short false p amount when h k = (h, k)

fit_short : (b : Bool) (r : Ranged costs.Cost) → WhenWithin IsShortCost r
    → WhenWithin IsShortCost (cond b r Outside)
fit_short true r h = h
fit_short false r h = tt

cost_short : (is_total : Bool) (p : CostParts) → AreShortParts p
    → WhenWithin IsShortCost (cost_of is_total p)
cost_short is_total p h =
    fit_short (others_fit p)
    (ranged_map2 (cost_with is_total p) (option_within p.amount) (option_within p.day))
    (mapped2 IsShortCost (cost_with is_total p) (option_within p.amount) (option_within p.day)
    (option_short IsShortAmount p.amount h.0) (any_within (option_within p.day))
    (λ amount when k any. lot_short (is_outside_profile is_total p) p amount when k h.1))

cost_in_kept : (is_total : Bool) → Gives (WhenWithin IsShortCost) (cost_in is_total)
cost_in_kept is_total =
    keeps_applied (made (cost_of is_total)) (braced is_total) (braced_kept is_total)
    (keeps_made (cost_of is_total) (cost_short is_total))

cost_kept : Gives (WhenWithin IsShortCost) cost
cost_kept = keeps_either (cost_in false) (cost_in true) (cost_in_kept false) (cost_in_kept true)

absent_cost_short : (o : Option (Ranged costs.Cost)) → IfSome o (WhenWithin IsShortCost)
    → WhenWithin IsShortCost (cost_or_absent o)
absent_cost_short None h = tt
absent_cost_short (Some c) h = h

cost_if_due_kept : Gives (WhenWithin IsShortCost) cost_if_due
cost_if_due_kept =
    keeps_applied (made cost_or_absent) (due begins_with_cost cost)
    (keeps_due begins_with_cost cost cost_kept) (keeps_made cost_or_absent absent_cost_short)

-- Prices.

priced_short : (is_total : Bool) (a : amounts.Amount) → IsShortCurrency a.currency
    → IsShortPrice (priced is_total a)
priced_short false a h = h
priced_short true a h = h

price_short : (is_total : Bool) (n : Option (Ranged Num)) (c : Option (List ℕ))
    → IfSome c IsShortCurrency → WhenWithin IsShortPrice (price_by is_total n c)
price_short is_total (Some n) (Some c) h =
    mapped_any IsShortPrice (λ x. priced is_total record { number = x; currency = c }) n
    (λ x. priced_short is_total record { number = x; currency = c } h)
price_short is_total (Some n) None h =
    mapped_any IsShortPrice (λ x. price_kind.OutsideProfile) n (λ x. tt)
price_short is_total None c h = tt

price_sign_kept : Gives Any (word price_sign)
price_sign_kept = keeps_word price_sign (λ b h. tt)

price_kept : Gives (WhenWithin IsShortPrice) price
price_kept =
    keeps_applied (made price_of <+> word price_sign) amount_parts amount_parts_kept
    (keeps_applied (made price_of) (word price_sign) price_sign_kept
    (keeps_made price_of (λ is_total any p h. price_short is_total p.number p.currency h)))

absent_price_short : (o : Option (Ranged prices.Price)) → IfSome o (WhenWithin IsShortPrice)
    → WhenWithin IsShortPrice (price_or_absent o)
absent_price_short None h = tt
absent_price_short (Some p) h = h

price_if_due_kept : Gives (WhenWithin IsShortPrice) price_if_due
price_if_due_kept =
    keeps_applied (made price_or_absent) (due begins_with_price price)
    (keeps_due begins_with_price price price_kept) (keeps_made price_or_absent absent_price_short)

-- Posting lines.

units_short : (n : Option (Ranged Num)) (c : Option (List ℕ)) → IfSome c IsShortCurrency
    → WhenWithin AreShortUnits (units_by n c)
units_short None None h = tt
units_short None (Some c) h = h
units_short (Some n) None h =
    mapped_any AreShortUnits (λ x. units_kind.NumberAlone) n (λ x. tt)
units_short (Some n) (Some c) h =
    mapped_any AreShortUnits (λ x. units_kind.Amount record { number = x; currency = c }) n
    (λ x. h)

units_kept : Gives (WhenWithin AreShortUnits) units
units_kept =
    keeps_applied (made units_of) amount_parts amount_parts_kept
    (keeps_made units_of (λ p h. units_short p.number p.currency h))

flag_sign_kept : Gives Any (word flag_sign)
flag_sign_kept = keeps_word flag_sign (λ f h. tt)

flag_if_due_kept : Gives (λ o. IfSome o Any) flag_if_due
flag_if_due_kept = keeps_due begins_with_flag_sign (word flag_sign) flag_sign_kept

abbrev the_posting : ℕ → Option flags.Flag → List ℕ → units_declared.Units → costs.Cost
    → prices.Price → postings.Posting
the_posting line flag account u c p =
    record {
      account = account;
      units = u;
      details = on_line line flag c p;
    }

posting_small : (line : ℕ) (flag : Option flags.Flag) (account : List ℕ)
    (u : Ranged units_declared.Units) (c : Ranged costs.Cost) (p : Ranged prices.Price)
    → line ≤ most → IsShort account → WhenWithin AreShortUnits u → WhenWithin IsShortCost c
    → WhenWithin IsShortPrice p → WhenWithin IsSmallPosting (posting_of line flag account u c p)
posting_small line flag account u c p l a su sc sp =
    mapped3 IsSmallPosting (the_posting line flag account) u c p su sc sp
    (λ v d q sv sd sq. record {
      line = l;
      account = a;
      units = sv;
      cost = sd;
      price = sq;
      metadata = tt;
    })

pub posting_kept : (line : ℕ) → line ≤ most → Gives (WhenWithin IsSmallPosting) (posting line)
posting_kept line l =
    keeps_applied (posted_to line <+> cost_if_due) price_if_due price_if_due_kept
    (keeps_applied (posted_to line) cost_if_due cost_if_due_kept
    (keeps_applied (made (posting_of line) <+> flag_if_due <+> word Account) units units_kept
    (keeps_applied (made (posting_of line) <+> flag_if_due) (word Account) account_kept
    (keeps_applied (made (posting_of line)) flag_if_due flag_if_due_kept
    (keeps_made (posting_of line)
    (λ flag any account a u su c sc p sp. posting_small line flag account u c p l a su sc sp))))))
