-- Where all sums are 0 a transaction balances.
use Rattle.std.proofs.Common.{◌≡◌, ◌&&◌, arith, ℕ, pos, Bool, true, false, nat_le, List, [], ◌∷◌}
use Rattle.std.proofs.Common.{refl, ap, ◌∙◌}
use Rattle.std.proofs.lemmas.Bool.Decides.{Decides-int_eq, nat_tests}
use Rattle.std.specs.Int.RustNames.{unsigned_abs}
use Rattle.std.specs.List.{list_all}
use Rattle.std.specs.Ordering.{int_eq}
use Rattle.bean_interp.specs.Balance.{is_even}
use Rattle.bean_interp.specs.Residual.{residual}
use Rattle.bean_interp.specs.Sums.{is_zero}
use Rattle.bean_interp.specs.Tolerance.{tolerance}
use Rattle.bean_interp.specs.declared.leg.Leg.{Leg}
use Rattle.bean_interp.proofs.TableFacts.{listed}

least : (n : ℕ) → nat_le 0 n ≡ true
least n = grind (arith, nat_tests)

even_zero : (legs : List Leg) (c : List ℕ) → int_eq (residual legs c) (pos 0) ≡ true
    → is_even legs c ≡ true
even_zero legs c is =
    ap (λ z. nat_le (unsigned_abs z) (tolerance legs c))
    ((Decides-int_eq (residual legs c) (pos 0)).0 is) ∙ least (tolerance legs c)

pub zero_is_even : (legs : List Leg) (cs : List (List ℕ))
    → list_all is_zero (listed (residual legs) cs) ≡ true → list_all (is_even legs) cs ≡ true
zero_is_even legs [] all = refl
zero_is_even legs (c ∷ cs) all =
    by (int_eq (residual legs c) (pos 0)) refl all (zero_is_even legs cs)
  where
    by : (b : Bool) → int_eq (residual legs c) (pos 0) ≡ b
        → (b && list_all is_zero (listed (residual legs) cs)) ≡ true
        → (list_all is_zero (listed (residual legs) cs) ≡ true → list_all (is_even legs) cs ≡ true)
        → list_all (is_even legs) (c ∷ cs) ≡ true
    by true zero rest later = λ i. even_zero legs c zero i && later rest i
    by false some never later = absurd cc
