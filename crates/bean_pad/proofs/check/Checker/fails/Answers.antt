use Rattle.std.proofs.Common.{◌≡◌, ◌<◌, ◌≤◌, ◌*◌, ◌^◌, ℕ, ℤ, ◌-ℤ◌, ap, ◌∙◌, arith, to_z, of_z}
use Rattle.std.specs.Int.{w128}
use Rattle.std.specs.Int.RustNames.{unsigned_abs}
use Rattle.std.proofs.lemmas.Int.{ints}
use Rattle.bean_pad.specs.Tolerance.{is_out}
use Rattle.bean_pad.proofs.check.Checker.fails.Goals as goal

fits : (n : ℤ) → unsigned_abs n < 2 ^ 127 → to_z w128 (of_z w128 n) ≡ n
fits n h = omega (arith, ints)

less : (n : ℕ) (s i t : ℤ) → n < 2 ^ 42 → unsigned_abs s < 2 ^ 120 → unsigned_abs i ≤ n * 10 ^ 20
    → unsigned_abs t < 10 ^ 20
    → is_out (to_z w128 (of_z w128 (to_z w128 (of_z w128 s) -ℤ to_z w128 (of_z w128 i))))
    (to_z w128 (of_z w128 t)) ≡ is_out (s -ℤ i) t
less n s i t few a b d =
    let first = fits s (omega (arith, ints)) in
    let second = fits i (omega (arith, ints)) in
    let third = fits t (omega (arith, ints)) in
    let fourth = fits (s -ℤ i) (omega (arith, ints)) in
    rw (first, second, third, fourth)

pub returns : goal.returns
returns c = λ us h.
    let a = c.args.check.now.account in
    let k = c.args.check.now.currency in
    c.is_out.ensures
    ∙ less c.args.self.now.inserted.additions c.args.check.now.short c.get-inserted.result
    c.args.check.now.tolerance c.requires.few c.requires.near.0
    (rw c.get-inserted.ensures (c.requires.small a k)) c.requires.near.1
    ∙ ap (λ i. is_out (c.args.check.now.short -ℤ i) c.args.check.now.tolerance)
    (c.get-inserted.ensures ∙ h.sums a k)
