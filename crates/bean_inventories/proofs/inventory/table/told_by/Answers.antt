use Rattle.std.proofs.Common.{add-one, take}
use Rattle.bean_inventories.proofs.TableFacts.{all_still, one_more}
use Rattle.bean_inventories.proofs.inventory.table.told_by.Goals as goal

pub loop-index-preserved : goal.loop-index-preserved
loop-index-preserved c =
    let slots = c.args.slots.now in
    let i = c.loop-index.index in
    rw add-one
    (one_more c.note.new.self i slots _ _ c.slot_at.ensures
    (all_still c.loop-index.table c.note.new.self (take i slots) c.note.ensures.others
    c.loop-index.invariant)
    c.in_ok-note.ensures.own)
