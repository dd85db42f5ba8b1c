-- The rows of pads, as the program makes them.
use Rattle.std.proofs.Common.{◌≡◌, ℤ, zero, suc, negsuc, refl, neg_ℤ, ◌-ℤ◌, ◌*ℤ◌, pos, ◌<◌, ◌^◌}
use Rattle.std.proofs.Common.{to_z, of_z, ap, ◌∙◌, arith}
use Rattle.std.proofs.Math.IntN.{+ℤ_idl}
use Rattle.std.specs.Int.{w128}
use Rattle.std.specs.Int.RustNames.{unsigned_abs}
use Rattle.std.proofs.lemmas.Int.{fits_signed_from_abs, to_z-of_z, unsigned_abs-mul}

pub unsigned_abs-neg : (n : ℤ) → unsigned_abs (neg_ℤ n) ≡ unsigned_abs n
unsigned_abs-neg (pos zero) = refl
unsigned_abs-neg (pos (suc n)) = refl
unsigned_abs-neg (negsuc n) = refl

from_zero : (n : ℤ) → pos 0 -ℤ n ≡ neg_ℤ n
from_zero n = +ℤ_idl (neg_ℤ n)

pub same : (n : ℤ) → unsigned_abs n < 10 ^ 28 → to_z w128 (of_z w128 n) ≡ n
same n small = to_z-of_z w128 n (fits_signed_from_abs w128 n (omega (arith, small)))

pub turned : (n : ℤ) → unsigned_abs n < 10 ^ 20
    → to_z w128 (of_z w128 (pos 0 -ℤ to_z w128 (of_z w128 n))) ≡ neg_ℤ n
turned n small =
    let e = unsigned_abs-neg n in
    ap (λ z. to_z w128 (of_z w128 (pos 0 -ℤ z))) (same n (omega (arith, small)))
    ∙ ap (λ z. to_z w128 (of_z w128 z)) (from_zero n)
    ∙ same (neg_ℤ n) (omega (arith, small, e))

pub weighed : (n : ℤ) → unsigned_abs n < 10 ^ 20
    → to_z w128 (of_z w128 (to_z w128 (of_z w128 n) *ℤ pos 100000000)) ≡ n *ℤ pos (10 ^ 8)
weighed n small =
    let e = unsigned_abs-mul n (pos 100000000) in
    ap (λ z. to_z w128 (of_z w128 (z *ℤ pos 100000000))) (same n (omega (arith, small)))
    ∙ same (n *ℤ pos 100000000) (omega (arith, small, e))
