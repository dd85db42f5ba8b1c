use Rattle.std.proofs.Common.{◌≡◌, ℕ, ℤ, ◌-ℤ◌, ◌+◌, ◌*◌, ◌^◌, ◌<◌, ◌≤◌, arith, subst, sym, ◌∙◌}
use Rattle.std.proofs.Common.{to_z, of_z}
use Rattle.std.specs.Int.{w128}
use Rattle.std.specs.Int.RustNames.{unsigned_abs}
use Rattle.std.proofs.lemmas.Int.{ints}
use Rattle.bean_pad.proofs.padder.Padder.difference.Goals as goal
use mir.Val.{SFits}

fits : (s : ℕ) (x y : ℤ) → s < 2 ^ 40 → unsigned_abs x ≤ (s + 1) * 10 ^ 20
    → unsigned_abs y ≤ s * 10 ^ 20
    → SFits w128 (to_z w128 (of_z w128 x) -ℤ to_z w128 (of_z w128 y))
fits s x y few p q = omega (arith, ints)

exact : (s : ℕ) (x y : ℤ) → s < 2 ^ 40 → unsigned_abs x ≤ (s + 1) * 10 ^ 20
    → unsigned_abs y ≤ s * 10 ^ 20
    → to_z w128 (of_z w128 (to_z w128 (of_z w128 x) -ℤ to_z w128 (of_z w128 y))) ≡ x -ℤ y
exact s x y few p q = omega (arith, ints)

small : (s : ℕ) (x y : ℤ) → s < 2 ^ 40 → unsigned_abs x ≤ (s + 1) * 10 ^ 20
    → unsigned_abs y ≤ s * 10 ^ 20
    → unsigned_abs (to_z w128 (of_z w128 (to_z w128 (of_z w128 x) -ℤ to_z w128 (of_z w128 y))))
    < 2 ^ 127
small s x y few p q = omega (arith, ints)

pub overflow_sub-result : goal.overflow_sub-result
overflow_sub-result c =
    let p = c.args.self.now in
    let b = c.args.balance.now in
    fits p.steps c.short.result c.get-seen.result.padded c.requires.few c.short.ensures.small
    (subst (λ n. unsigned_abs n ≤ p.steps * 10 ^ 20) (sym c.get-seen.ensures.padded)
    (c.requires.bounded.paddings b.account b.currency))

pub returns-clause-is : goal.returns-clause-is
returns-clause-is c = λ past h.
    let p = c.args.self.now in
    let b = c.args.balance.now in
    exact p.steps c.short.result c.get-seen.result.padded c.requires.few c.short.ensures.small
    (subst (λ n. unsigned_abs n ≤ p.steps * 10 ^ 20) (sym c.get-seen.ensures.padded)
    (c.requires.bounded.paddings b.account b.currency))
    ∙ (λ i. c.short.ensures.is past h i
    -ℤ (c.get-seen.ensures.padded ∙ h.paddings b.account b.currency) i)

pub returns-clause-small : goal.returns-clause-small
returns-clause-small c =
    let p = c.args.self.now in
    let b = c.args.balance.now in
    small p.steps c.short.result c.get-seen.result.padded c.requires.few c.short.ensures.small
    (subst (λ n. unsigned_abs n ≤ p.steps * 10 ^ 20) (sym c.get-seen.ensures.padded)
    (c.requires.bounded.paddings b.account b.currency))
