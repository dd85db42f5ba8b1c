use Rattle.std.proofs.Common.{◌≡◌, ◌≤ℤ◌, to_z, of_z, arith, sym, subst, ◌++◌, ◌∷◌, []}
use Rattle.std.specs.Int.{w32}
use Rattle.std.proofs.lemmas.Int.{ints}
use Rattle.bean_base.specs.Day.{number}
use Rattle.bean_inventories.specs.Kept.{AreBy, AreInOrder}
use Rattle.bean_inventories.proofs.DayFacts.{pushed_without, pushed_lot}
use Rattle.bean_inventories.proofs.inventory.days.Days.with.Goals as goal

pub returns-in_default : goal.returns-in_default
returns-in_default c = λ es n h e. pushed_without _ es c.args.key.now n c.in_default.is (h e)

pub returns-then-self : goal.returns-then-self
returns-then-self c = λ es n h e.
    let l = c.in-Some.lot in
    let wide : to_z w32 (of_z w32 c.number-day.result) ≡ number l.day =
    omega (arith, ints, c.number-day.ensures, c.number-day.type_inv) in
    let below : c.args.self.latest ≤ℤ number l.day = grind (arith, ints, e, wide) in
    let all = es ++ (c.args.key.now, n) ∷ [] in
    subst (λ d. AreInOrder all × AreBy d all) (sym wide)
    (pushed_lot _ es c.args.key.now l n c.in-Some.is below (h c.if-self.true))
