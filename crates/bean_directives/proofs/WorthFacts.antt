-- Whether what an expression is worth is below 0.
use Rattle.std.proofs.Common.{◌≡◌, ◌↔◌, Bool, true, false, List, sym, ◌∙◌, ap}
use Rattle.theory.specs.Form.{Reads, HasNone}
use Rattle.exact_numbers.specs.Exact.{Exact, is_negative}
use Rattle.bean_grammar.specs.Expression.{exactly, sum}
use Rattle.bean_grammar.specs.Lexeme.{Lexeme}
use Rattle.bean_directives.specs.Head.{IsBelowZero}

pub below_where_negative : (ls : List Lexeme) (value : Exact) (rest : List Lexeme) (is : Bool)
    → Reads (sum exactly 200) ls value rest → (sum exactly 200).goes_on rest ≡ false
    → is ≡ is_negative value → (is ≡ true) ↔ IsBelowZero ls
below_where_negative ls value rest is r ends told = (
  λ t. (value, (rest, (r.read, ends)), sym told ∙ t),
  λ w. told
      ∙ ap is_negative (r.only w.0 w.1.0 w.1.1.0 w.1.1.1).0 ∙ w.2,
)

pub not_below_where_none : (ls : List Lexeme) → HasNone (sum exactly 200) ls
    → (false ≡ true) ↔ IsBelowZero ls
not_below_where_none ls none = (λ t. absurd cc, λ w. absurd (none w.0 w.1.0 w.1.1.0 w.1.1.1))

both_ways : (is : Bool) → is ≡ true → is ≡ false → ⊥
both_ways is t f = cc

pub told_not : (is : Bool) (A : Type 0) → is ≡ false → (is ≡ true) ↔ A → ¬ A
told_not is A f told a = both_ways is (told.1 a) f
