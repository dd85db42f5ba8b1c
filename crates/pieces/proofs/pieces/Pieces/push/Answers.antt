use Rattle.std.proofs.Common.{◌∙◌, ◌∷◌, [], ◌++◌, ap, arith, length}
use Rattle.std.proofs.lemmas.List.{length-append}
use Rattle.pieces.specs.Pieces.{pieced}
use Rattle.pieces.proofs.PieceFacts.{at_end}
use Rattle.pieces.proofs.pieces.Pieces.push.Goals as goal

pub invariant_of-self-2 : goal.invariant_of-self-2
invariant_of-self-2 g c =
    let full = c.make_room.new.full.items in
    let last = c.make_room.new.last.items in
    let item = c.args.item in
    let added = c.in_ok-push.ensures.items in
    let count =
    ap (pieced full) added ∙ at_end full last (item ∷ [])
    ∙ ap (λ l. l ++ item ∷ []) c.make_room.ensures.same in
    let longer = length-append (pieced c.self.inside.full.items c.self.inside.last.items) (item ∷ []) in
    let more = length-append last (item ∷ []) in
    let all = c.self.invariant.0 in
    let room = c.in_ok-make_room.ensures.room in
    let sum = ap length count in
    let short = ap length added in (
      omega (arith, all, sum, longer),
      c.make_room.ensures.full,
      omega (arith, room, short, more),
    )

pub returns-clause-pushed : goal.returns-clause-pushed
returns-clause-pushed g c =
    let full = c.make_room.new.full.items in
    let last = c.make_room.new.last.items in
    let item = c.args.item in
    ap (pieced full) c.in_ok-push.ensures.items ∙ at_end full last (item ∷ [])
    ∙ ap (λ l. l ++ item ∷ []) (c.make_room.ensures.same ∙ c.self.view_is)
