-- How prices are read.
use Rattle.std.proofs.Common.{◌≡◌, Bool, true, false, List, ◌∷◌, Some, None, refl, ◌∙◌, ap}
use Rattle.theory.specs.Form.{Reads, HasNone, IsUnambiguous, word, made, ◌<+>◌, due}
use Rattle.theory.proofs.FormFacts.{IsExact, Tells, reads_word, reads_due, reads_not_due, none_due}
use Rattle.theory.proofs.OneReading.{one_word, one_due}
use Rattle.bean_grammar.specs.declared.amount.AmountParts.{AmountParts}
use Rattle.bean_postings.specs.declared.price.Price.TheVariants.{Absent}
use Rattle.bean_grammar.specs.declared.ranged.Ranged.TheVariants.{Within}
use Rattle.bean_grammar.specs.Amount.{amount_parts}
use Rattle.bean_grammar.specs.Lexeme.{Lexeme}
use Rattle.bean_postings.specs.Price.{price_sign, begins_with_price, price_of, price}
use Rattle.bean_postings.specs.Price.{price_or_absent, price_if_due}
use Rattle.bean_grammar.proofs.AmountFacts.{one_amount_parts}
use Rattle.bean_grammar.proofs.AppliedFacts.{reads_first, no_first, one_first, reads_next, no_next}
use Rattle.bean_grammar.proofs.AppliedFacts.{one_next}

exact_price_sign : IsExact price_sign
exact_price_sign true true e = refl
exact_price_sign true false e = cc
exact_price_sign false true e = cc
exact_price_sign false false e = refl

sign_begins : (is_total : Bool) (rest : List Lexeme)
    → begins_with_price (price_sign is_total ∷ rest) ≡ true
sign_begins true rest = refl
sign_begins false rest = refl

price_told : Tells begins_with_price price
price_told ls v rest p = ap begins_with_price (p.3.3.1 ∙ p.3.4) ∙ sign_begins p.3.1 p.2

reads_signed : (ls : List Lexeme) (is_total : Bool) (mid : List Lexeme)
    → ls ≡ price_sign is_total ∷ mid
    → Reads (made price_of <+> word price_sign) ls (price_of is_total) mid
reads_signed ls is_total mid at =
    reads_first price_of (word price_sign) ls is_total mid
    (reads_word price_sign ls is_total mid exact_price_sign at)

pub reads_price :
    (ls : List Lexeme) (is_total : Bool) (mid : List Lexeme) (parts : AmountParts)
    (rest : List Lexeme)
    → ls ≡ price_sign is_total ∷ mid → Reads amount_parts mid parts rest
    → Reads price_if_due ls (price_of is_total parts) rest
reads_price ls is_total mid parts rest at r =
    reads_first price_or_absent (due begins_with_price price) ls (Some (price_of is_total parts))
    rest
    (reads_due begins_with_price price ls (price_of is_total parts) rest
    (ap begins_with_price at ∙ sign_begins is_total mid)
    (reads_next (made price_of <+> word price_sign) amount_parts ls (price_of is_total) mid parts
    rest (λ rest. refl) (reads_signed ls is_total mid at) r))

pub none_price : (ls : List Lexeme) (is_total : Bool) (mid : List Lexeme)
    → ls ≡ price_sign is_total ∷ mid → HasNone amount_parts mid → HasNone price_if_due ls
none_price ls is_total mid at none =
    no_first price_or_absent (due begins_with_price price) ls
    (none_due begins_with_price price ls (ap begins_with_price at ∙ sign_begins is_total mid)
    (no_next (made price_of <+> word price_sign) amount_parts ls (price_of is_total) mid
    (λ rest. refl) (reads_signed ls is_total mid at) none))

pub absent_price : (ls : List Lexeme) → begins_with_price ls ≡ false
    → Reads price_if_due ls (Within Absent) ls
absent_price ls absent =
    reads_first price_or_absent (due begins_with_price price) ls None ls
    (reads_not_due begins_with_price price ls price_told absent)

one_price : IsUnambiguous price
one_price =
    one_next (made price_of <+> word price_sign) amount_parts (λ rest. refl)
    (one_first price_of (word price_sign) (one_word price_sign exact_price_sign)) one_amount_parts

pub one_price_if_due : IsUnambiguous price_if_due
one_price_if_due =
    one_first price_or_absent (due begins_with_price price)
    (one_due begins_with_price price price_told one_price)
