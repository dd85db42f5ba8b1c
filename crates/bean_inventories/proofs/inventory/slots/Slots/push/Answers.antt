use Rattle.std.proofs.Common.{◌∙◌, ◌∷◌, [], Some, pos, arith, ap, length, length-append, position, sym}
use Rattle.std.specs.Map.{keys_of, lookup}
use Rattle.bean_lots.specs.Lot.{same_key}
use Rattle.bean_lots.proofs.SlotFacts.{count_last, place_last}
use Rattle.bean_inventories.proofs.inventory.slots.Slots.push.Goals as goal

pub fill-requires-clause-at : goal.fill-requires-clause-at
fill-requires-clause-at c =
    let k = c.args.key.now in
    ap (λ l. position (same_key k) (keys_of l)) c.in_ok-push_hole.ensures.ok
    ∙ place_last c.begin_anew.new.self.counts k (pos 0) (c.begin_anew.ensures.absent k c.requires.absent)
    ∙ ap Some (sym c.len-last.ensures.len)

pub fill-requires-clause-hole : goal.fill-requires-clause-hole
fill-requires-clause-hole c =
    let k = c.args.key.now in
    ap (lookup (same_key k)) c.in_ok-push_hole.ensures.ok
    ∙ count_last c.begin_anew.new.self.counts k (pos 0) (c.begin_anew.ensures.absent k c.requires.absent)

pub fill-requires-clause-last : goal.fill-requires-clause-last
fill-requires-clause-last c =
    let more = length-append c.begin_anew.new.self.counts ((c.args.key.now, pos 0) ∷ []) in
    let all = ap length c.in_ok-push_hole.ensures.ok in
    omega (arith, more, all, c.len-last.ensures.len)
