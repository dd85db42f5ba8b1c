use Rattle.std.proofs.Common.{◌≡◌, pos, false, ◌+ℤ◌, to_z, of_z, arith, sym}
use Rattle.std.proofs.Common.{ap, subst, ◌∙◌}
use Rattle.std.specs.Int.{w128}
use Rattle.std.specs.Ordering.{int_eq}
use Rattle.std.proofs.lemmas.Int.{ints}
use Rattle.indexmap.specs.IndexMap.{insert_entry, set_value_at}
use Rattle.bean_lots.specs.Lot.{same_key}
use Rattle.bean_inventories.specs.Known.{signs_of}
use Rattle.bean_inventories.specs.Recount.{IsCounted, IsRecounted}
use Rattle.bean_lots.specs.Slots.{positions}
use Rattle.bean_lots.proofs.SlotFacts.{held_key}
use Rattle.bean_lots.proofs.SlotFacts as slot
use Rattle.bean_inventories.proofs.KeptFacts as kept
use Rattle.bean_inventories.proofs.inventory.slots.Slots.write.Goals as goal

pub recount-requires-clause-counted : goal.recount-requires-clause-counted
recount-requires-clause-counted c =
    let s = c.args.self.now in
    let k = c.args.key.now in
    let wide : to_z w128 (of_z w128 c.args.before) ≡ c.args.before = omega (arith, ints) in
    subst (IsCounted (signs_of s.lots) k) (sym wide)
    (kept.counted s k c.args.before c.requires.kept c.requires.count)

pub leave_hole-requires : goal.leave_hole-requires
leave_hole-requires c =
    let s = c.args.self.now in
    let es = s.counts in
    let k = c.args.key.now in
    let wide : to_z w128 (of_z w128 c.args.before) ≡ c.args.before = omega (arith, ints) in
    let some : int_eq c.args.before (pos 0) ≡ false = grind (arith, ints, c.requires.some) in
    let n = to_z w128 (of_z w128 c.args.after) in
    let t = c.recount.new.self in
    let entries =
    c.set.ensures ∙ ap (λ m. set_value_at m c.args.index n) c.recount.ensures.counts
    ∙ slot.written es k c.args.index n c.requires.at in
    kept.written s _ k c.args.before n c.requires.kept c.requires.count some entries
    c.recount.ensures.first c.recount.ensures.days c.recount.ensures.told
    (subst (λ m. IsRecounted (signs_of s.lots) k m n (signs_of t.lots)) wide
    c.in_ok-recount.ensures.ok)

pub returns-then-after-eq0-clause-ok : goal.returns-then-after-eq0-clause-ok
returns-then-after-eq0-clause-ok c = λ n e.
    let es = c.args.self.now.counts in
    let k = c.args.key.now in
    let wide : to_z w128 (of_z w128 c.args.after) ≡ c.args.before +ℤ n = omega (arith, ints, e) in
    let some : int_eq c.args.before (pos 0) ≡ false = grind (arith, ints, c.requires.some) in
    let entries =
    c.set.ensures
    ∙ ap (λ m. set_value_at m c.args.index (to_z w128 (of_z w128 c.args.after)))
    c.recount.ensures.counts
    ∙ slot.written es k c.args.index _ c.requires.at in
    c.leave_hole.ensures.same ∙ ap positions entries
    ∙ ap (λ m. positions (insert_entry same_key es k m)) wide
    ∙ held_key es k c.args.before n c.requires.count some

pub returns-else-after-eq0-clause-kept : goal.returns-else-after-eq0-clause-kept
returns-else-after-eq0-clause-kept c =
    let s = c.args.self.now in
    let es = s.counts in
    let k = c.args.key.now in
    let wide : to_z w128 (of_z w128 c.args.before) ≡ c.args.before = omega (arith, ints) in
    let some : int_eq c.args.before (pos 0) ≡ false = grind (arith, ints, c.requires.some) in
    let n = to_z w128 (of_z w128 c.args.after) in
    let t = c.recount.new.self in
    let entries =
    c.set.ensures ∙ ap (λ m. set_value_at m c.args.index n) c.recount.ensures.counts
    ∙ slot.written es k c.args.index n c.requires.at in
    kept.written s _ k c.args.before n c.requires.kept c.requires.count some entries
    c.recount.ensures.first c.recount.ensures.days c.recount.ensures.told
    (subst (λ m. IsRecounted (signs_of s.lots) k m n (signs_of t.lots)) wide
    c.in_ok-recount.ensures.ok)

pub returns-else-after-eq0-clause-ok : goal.returns-else-after-eq0-clause-ok
returns-else-after-eq0-clause-ok c = λ n e.
    let es = c.args.self.now.counts in
    let k = c.args.key.now in
    let wide : to_z w128 (of_z w128 c.args.after) ≡ c.args.before +ℤ n = omega (arith, ints, e) in
    let some : int_eq c.args.before (pos 0) ≡ false = grind (arith, ints, c.requires.some) in
    let entries =
    c.set.ensures
    ∙ ap (λ m. set_value_at m c.args.index (to_z w128 (of_z w128 c.args.after)))
    c.recount.ensures.counts
    ∙ slot.written es k c.args.index _ c.requires.at in
    ap positions entries
    ∙ ap (λ m. positions (insert_entry same_key es k m)) wide
    ∙ held_key es k c.args.before n c.requires.count some
