use Rattle.std.proofs.Common.{◌≡◌, ℕ, ℤ, ◌-ℤ◌, ◌+◌, ◌*◌, ◌^◌, ◌<◌, ◌≤◌, arith, subst, sym, ◌∙◌}
use Rattle.std.proofs.Common.{to_z, of_z}
use Rattle.std.specs.Int.{w128}
use Rattle.std.specs.Int.RustNames.{unsigned_abs}
use Rattle.std.proofs.lemmas.Int.{ints}
use Rattle.bean_pad.proofs.padder.Padder.short.Goals as goal
use mir.Val.{SFits}

fits : (s a : ℕ) (x y : ℤ) → s < 2 ^ 40 → a ≤ s → unsigned_abs x < 10 ^ 20
    → unsigned_abs y ≤ a * 10 ^ 20
    → SFits w128 (to_z w128 (of_z w128 x) -ℤ to_z w128 (of_z w128 y))
fits s a x y few more p q = omega (arith, ints)

exact : (s a : ℕ) (x y : ℤ) → s < 2 ^ 40 → a ≤ s → unsigned_abs x < 10 ^ 20
    → unsigned_abs y ≤ a * 10 ^ 20
    → to_z w128 (of_z w128 (to_z w128 (of_z w128 x) -ℤ to_z w128 (of_z w128 y))) ≡ x -ℤ y
exact s a x y few more p q = omega (arith, ints)

small : (s a : ℕ) (x y : ℤ) → s < 2 ^ 40 → a ≤ s → unsigned_abs x < 10 ^ 20
    → unsigned_abs y ≤ a * 10 ^ 20
    → unsigned_abs (to_z w128 (of_z w128 (to_z w128 (of_z w128 x) -ℤ to_z w128 (of_z w128 y))))
    ≤ (s + 1) * 10 ^ 20
small s a x y few more p q = omega (arith, ints)

pub overflow_sub-result : goal.overflow_sub-result
overflow_sub-result c =
    let p = c.args.self.now in
    let b = c.args.balance.now in
    fits p.steps p.written.additions c.scaled.result c.get-written.result c.requires.few
    c.requires.bounded.additions c.scaled.ensures.bound
    (subst (λ n. unsigned_abs n ≤ p.written.additions * 10 ^ 20) (sym c.get-written.ensures)
    (c.requires.bounded.sums b.account b.currency))

pub returns-clause-is : goal.returns-clause-is
returns-clause-is c = λ past h.
    let p = c.args.self.now in
    let b = c.args.balance.now in
    exact p.steps p.written.additions c.scaled.result c.get-written.result c.requires.few
    c.requires.bounded.additions c.scaled.ensures.bound
    (subst (λ n. unsigned_abs n ≤ p.written.additions * 10 ^ 20) (sym c.get-written.ensures)
    (c.requires.bounded.sums b.account b.currency))
    ∙ (λ i. c.scaled.ensures.value i
    -ℤ (c.get-written.ensures ∙ h.sums.sums b.account b.currency) i)

pub returns-clause-small : goal.returns-clause-small
returns-clause-small c =
    let p = c.args.self.now in
    let b = c.args.balance.now in
    small p.steps p.written.additions c.scaled.result c.get-written.result c.requires.few
    c.requires.bounded.additions c.scaled.ensures.bound
    (subst (λ n. unsigned_abs n ≤ p.written.additions * 10 ^ 20) (sym c.get-written.ensures)
    (c.requires.bounded.sums b.account b.currency))
