-- How amounts are read.
use Rattle.std.proofs.Common.{◌≡◌, ℕ, false, List, ◌∷◌, Option, Some, None, refl, ap}
use Rattle.theory.specs.Form.{Reads, HasNone, IsUnambiguous, word, made, ◌<+>◌}
use Rattle.theory.proofs.FormFacts.{Tells, reads_word, reads_due, reads_not_due}
use Rattle.theory.proofs.OneReading.{one_word, one_due}
use Rattle.bean_base.specs.declared.num.Num.{Num}
use Rattle.bean_grammar.specs.declared.ranged.Ranged.{Ranged}
use Rattle.bean_grammar.specs.Lexeme.{Lexeme, Currency, begins_with_currency}
use Rattle.bean_grammar.specs.Expression.{expression}
use Rattle.bean_grammar.specs.Amount.{amount_of, amount, amount_parts_of, number_if_due}
use Rattle.bean_grammar.specs.Amount.{currency_if_due, amount_parts}
use Rattle.bean_grammar.proofs.LexemeFacts.{exact_currency}
use Rattle.bean_grammar.proofs.LiteralFacts.{none_at}
use Rattle.bean_grammar.proofs.AppliedFacts.{reads_first, no_first, one_first, reads_next, no_next}
use Rattle.bean_grammar.proofs.AppliedFacts.{none_before, one_next}
use Rattle.bean_grammar.proofs.ExpressionFacts.{one_expression, one_number_due}

pub currency_told : Tells begins_with_currency (word Currency)
currency_told ls v rest p = ap begins_with_currency p

-- Whole amounts.

pub reads_amount :
    (ls : List Lexeme) (n : Ranged Num) (mid : List Lexeme) (bs : List ℕ) (rest : List Lexeme)
    → Reads expression ls n mid → mid ≡ Currency bs ∷ rest → Reads amount ls (amount_of n bs) rest
reads_amount ls n mid bs rest r at =
    reads_next (made amount_of <+> expression) (word Currency) ls (amount_of n) mid bs rest
    (λ rest. refl) (reads_first amount_of expression ls n mid r)
    (reads_word Currency mid bs rest exact_currency at)

pub none_numbered : (ls : List Lexeme) → HasNone expression ls → HasNone amount ls
none_numbered ls none =
    none_before (made amount_of <+> expression) (word Currency) ls (λ rest. refl)
    (no_first amount_of expression ls none)

pub none_with_currency : (ls : List Lexeme) (n : Ranged Num) (mid : List Lexeme)
    → Reads expression ls n mid → begins_with_currency mid ≡ false → HasNone amount ls
none_with_currency ls n mid r absent =
    no_next (made amount_of <+> expression) (word Currency) ls (amount_of n) mid (λ rest. refl)
    (reads_first amount_of expression ls n mid r)
    (none_at begins_with_currency (word Currency) mid currency_told absent)

pub one_amount : IsUnambiguous amount
one_amount =
    one_next (made amount_of <+> expression) (word Currency) (λ rest. refl)
    (one_first amount_of expression one_expression) (one_word Currency exact_currency)

-- Currencies.

pub reads_currency_due : (ls : List Lexeme) (bs : List ℕ) (rest : List Lexeme)
    → ls ≡ Currency bs ∷ rest → Reads currency_if_due ls (Some bs) rest
reads_currency_due ls bs rest at =
    reads_due begins_with_currency (word Currency) ls bs rest (ap begins_with_currency at)
    (reads_word Currency ls bs rest exact_currency at)

pub reads_no_currency : (ls : List Lexeme) → begins_with_currency ls ≡ false
    → Reads currency_if_due ls None ls
reads_no_currency ls absent =
    reads_not_due begins_with_currency (word Currency) ls currency_told absent

pub one_currency_due : IsUnambiguous currency_if_due
one_currency_due =
    one_due begins_with_currency (word Currency) currency_told (one_word Currency exact_currency)

-- Amounts with parts that aren't written.

pub reads_amount_parts :
    (ls : List Lexeme) (n : Option (Ranged Num)) (mid : List Lexeme) (c : Option (List ℕ))
    (rest : List Lexeme)
    → Reads number_if_due ls n mid → Reads currency_if_due mid c rest
    → Reads amount_parts ls (amount_parts_of n c) rest
reads_amount_parts ls n mid c rest r s =
    reads_next (made amount_parts_of <+> number_if_due) currency_if_due ls (amount_parts_of n) mid c
    rest (λ rest. refl) (reads_first amount_parts_of number_if_due ls n mid r) s

pub none_amount_parts : (ls : List Lexeme) → HasNone number_if_due ls → HasNone amount_parts ls
none_amount_parts ls none =
    none_before (made amount_parts_of <+> number_if_due) currency_if_due ls (λ rest. refl)
    (no_first amount_parts_of number_if_due ls none)

pub one_amount_parts : IsUnambiguous amount_parts
one_amount_parts =
    one_next (made amount_parts_of <+> number_if_due) currency_if_due (λ rest. refl)
    (one_first amount_parts_of number_if_due one_number_due) one_currency_due
