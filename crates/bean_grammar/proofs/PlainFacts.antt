-- A number alone, or one behind a sign, is an expression where nothing carries it on.
use Rattle.std.proofs.Common.{◌⊎◌, inl, inr, ◌≡◌, ℕ, Bool, false, ◌||◌, List, ◌∷◌, sym}
use Rattle.std.proofs.Common.{◌∙◌, subst, arith}
use Rattle.theory.specs.Form.{Reads}
use Rattle.theory.proofs.FormFacts.{either_false}
use Rattle.theory.proofs.RowFacts.{row_begins, row_is_read}
use Rattle.bean_base.specs.declared.num.Num.{Num}
use Rattle.bean_lexer.specs.declared.kind.Sign.TheVariants.{Star}
use Rattle.bean_grammar.specs.declared.ranged.Ranged.{Ranged}
use Rattle.bean_grammar.specs.Ranged.{ranged_map}
use Rattle.bean_grammar.specs.Lexeme.{Lexeme, Number, plus_or_minus, begins_with_sign}
use Rattle.bean_grammar.specs.Lexeme.{begins_with_plus_or_minus}
use Rattle.bean_grammar.specs.Exact.{exact, written, signed}
use Rattle.bean_grammar.specs.Expression.{Arithmetic, in_ledger, factor, product, sum, expression}
use Rattle.bean_grammar.proofs.ExpressionFacts.{another_factor, factor_begins, factor_told}
use Rattle.bean_grammar.proofs.ExpressionFacts.{another_product, with_product, product_begins}
use Rattle.bean_grammar.proofs.ExpressionFacts.{product_told, signed_factor, literal_factor}
use Rattle.bean_grammar.proofs.ExpressionFacts.{sum_stops, reads_expression}

product_of_one :
    {V : Type 0} (w : Arithmetic V) (room : ℕ) (ls : List Lexeme) (v : V) (rest : List Lexeme)
    → Reads (factor w room) ls v rest → begins_with_sign Star rest ≡ false
    → Reads (product w room) ls v rest
product_of_one w room ls v rest r absent =
    row_is_read (begins_with_sign Star) (product w room) (another_factor w room) w.times ls v rest
    (factor_told w room)
    (row_begins (begins_with_sign Star) (factor w room) (λ v. v) (another_factor w room) w.times ls
    v rest (factor_begins w room) r) absent

sum_of_one :
    {V : Type 0} (w : Arithmetic V) (room : ℕ) (ls : List Lexeme) (v : V) (rest : List Lexeme)
    → Reads (product w room) ls v rest → begins_with_plus_or_minus rest ≡ false
    → Reads (sum w room) ls v rest
sum_of_one w room ls v rest r absent =
    row_is_read begins_with_plus_or_minus (sum w room) (another_product w room) (with_product w) ls
    v rest (product_told w room)
    (row_begins begins_with_plus_or_minus (product w room) (λ v. v) (another_product w room)
    (with_product w) ls v rest (product_begins w room) r) absent

-- what stands behind the sign of a number, if there is one
abbrev pub IsPastSign : Bool → List Lexeme → List Lexeme → Type 0
IsPastSign minus ls mid =
    (ls ≡ plus_or_minus minus ∷ mid) ⊎ ((minus ≡ false) × (ls ≡ mid))

plain_factor : (minus : Bool) (ls mid : List Lexeme) (bs : List ℕ) (rest : List Lexeme)
    → IsPastSign minus ls mid → mid ≡ Number bs ∷ rest
    → Reads (factor in_ledger 200) ls (signed minus (written bs)) rest
plain_factor minus ls mid bs rest (inl at) number =
    signed_factor in_ledger 200 ls mid minus (written bs) rest at (omega arith)
    (literal_factor in_ledger 199 mid bs rest number)
plain_factor minus ls mid bs rest (inr at) number =
    subst (λ m. Reads (factor in_ledger 200) ls (signed m (written bs)) rest) (sym at.0)
    (literal_factor in_ledger 200 ls bs rest (at.1 ∙ number))

pub reads_plain :
    (minus : Bool) (ls mid : List Lexeme) (bs : List ℕ) (rest : List Lexeme) (n : Ranged Num)
    → IsPastSign minus ls mid → mid ≡ Number bs ∷ rest
    → (begins_with_plus_or_minus rest || begins_with_sign Star rest) ≡ false
    → ranged_map exact n ≡ signed minus (written bs) → Reads expression ls n rest
reads_plain minus ls mid bs rest n past number ends is =
    let both_end = either_false (begins_with_plus_or_minus rest) (begins_with_sign Star rest) ends in
    reads_expression ls n rest (sum_stops in_ledger 200 rest both_end.1 both_end.0)
    (subst (λ v. Reads (sum in_ledger 200) ls v rest) (sym is)
    (sum_of_one in_ledger 200 ls (signed minus (written bs)) rest
    (product_of_one in_ledger 200 ls (signed minus (written bs)) rest
    (plain_factor minus ls mid bs rest past number) both_end.1) both_end.0))
