use Rattle.std.proofs.Common.{◌≡◌, [], ◌∷◌, ℤ, List, length, refl, ap, arith}
use Rattle.std.proofs.lemmas.Bool.Decides.{nat_tests}
use Rattle.bean_lots.specs.Slots.{positions}
use Rattle.bean_lots.specs.declared.lot.Key.{Key}
use Rattle.bean_lots.proofs.SlotFacts.{inventory}
use Rattle.bean_inventories.proofs.inventory.slots.Slots.is_bare.Goals as goal

none : (es : List (Key × ℤ)) → length es ≡ 0 → es ≡ []
none [] e = refl
none (e ∷ es) h = absurd (omega (arith, h))

pub returns-clause-bare : goal.returns-clause-bare
returns-clause-bare c = λ t.
    ap positions
    (none c.args.self.now.counts (grind (arith, nat_tests, t, c.len.ensures.len)))

pub returns-clause-inventory : goal.returns-clause-inventory
returns-clause-inventory c = inventory c.args.self.now.counts c.len.ensures.unique
