-- What is written at the end.
use Rattle.std.proofs.Common.{◌≡◌, List, ℕ, ◌++◌, cond, is_ok, Result, Ok, Err, refl, ap, ◌∙◌}
use Rattle.std.specs.Prelude.{OnOk, [], ◌∷◌}
use Rattle.query_code.specs.ByteForm.{all_written}
use Rattle.query_code.specs.QueryFile.{place_below}

pub appended : {A B : Type 0} (r : Result A B) (new old bytes written : List ℕ)
    → new ≡ cond (is_ok r) (old ++ bytes) old → bytes ≡ written → OnOk r (new ≡ old ++ written)
appended (Ok x) new old bytes written e same = e ∙ ap (λ (b : List ℕ). old ++ b) same
appended (Err x) new old bytes written e same = tt

-- places are written as they are
pub order_written : (most : ℕ) (order : List ℕ) → all_written (place_below most) order ≡ order
unfolding place_below
order_written most [] = refl
order_written most (p ∷ ps) = ap (λ (r : List ℕ). p ∷ r) (order_written most ps)
