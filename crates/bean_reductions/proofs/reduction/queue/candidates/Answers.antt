use Rattle.std.proofs.Common.{◌≡◌, ◌∷◌, to_z, of_z, arith, sym, ap, ◌∙◌}
use Rattle.std.specs.Int.{w128}
use Rattle.std.proofs.lemmas.Int.{ints}
use Rattle.bean_lots.specs.Inventory.{position_of}
use Rattle.bean_reductions.proofs.AfterFacts.{next_candidate}
use Rattle.bean_reductions.proofs.reduction.queue.candidates.Goals as goal

pub loop-key-preserved : goal.loop-key-preserved
loop-key-preserved c =
    let s = c.args.selector.now in
    let want = to_z w128 (of_z w128 c.args.want) in
    let n = to_z w128 (of_z w128 c.in-Some.count) in
    let same : n ≡ c.in-Some.count = omega (arith, ints) in
    let e = position_of c.in-Some.key.now n in
    let rest = c.next_held.new.self in
    let is : c.loop-key.rest ≡ e ∷ rest =
    c.in-Some.ensures.some ∙ ap (λ m. position_of c.in-Some.key.now m ∷ rest) (sym same) in
    next_candidate s want c.loop-key.rest rest e c.loop-key.found.items
    c.push_candidate.new.found.items is c.in_ok-push_candidate.ensures.found
    ∙ c.loop-key.invariant
