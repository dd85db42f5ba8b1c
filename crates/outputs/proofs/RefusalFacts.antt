-- Which calls count.
use Rattle.std.proofs.Common.{◌≡◌, ℕ, Bool, true, false, ◌&&◌, nat_eq, nat_lt, List, Ok, length}
use Rattle.std.proofs.Common.{refl, ap, arith}
use Rattle.std.proofs.lemmas.Bool.Decides.{nat_tests}
use Rattle.outputs.specs.Refusals.{is_refused, refusals_behind}

never : (a b : Bool) → b ≡ false → (a && b) ≡ false
never true b is = is
never false b is = refl

-- a call that took some bytes doesn't
pub uncounted : (n count : ℕ) (bytes : List ℕ) → (count ≡ 0 → ⊥)
    → refusals_behind n (is_refused bytes (Ok count)) ≡ n
uncounted n count bytes some =
    let none : nat_eq count 0 ≡ false = grind (arith, nat_tests, some) in
    ap (refusals_behind n) (never (nat_lt 0 (length bytes)) (nat_eq count 0) none)
