-- Powers of ten, as they are looked up.
use Rattle.std.proofs.Common.{◌≡◌, ◌≤◌, ◌^◌, ℕ, ℤ, pos, to_z, of_z, arith}
use Rattle.std.specs.Int.{w128}
use Rattle.std.specs.Int.RustNames.{unsigned_abs}
use Rattle.std.proofs.lemmas.Int.{ints}
use Rattle.number_texts.proofs.DigitsFacts.{narrow}

pub looked_up : (z : ℤ) (places : ℕ) → places ≤ 38 → z ≡ pos (10 ^ places)
    → unsigned_abs (to_z w128 (of_z w128 z)) ≡ 10 ^ places
looked_up z places few is = let n = narrow places few in omega (arith, ints, is, n)
