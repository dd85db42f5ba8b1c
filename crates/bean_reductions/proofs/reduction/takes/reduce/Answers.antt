use Rattle.std.proofs.Common.{◌<◌, length, to_z, of_z, subst, sym}
use Rattle.std.specs.Int.{w128}
use Rattle.std.specs.List.{AllByRecursion}
use Rattle.bean_reductions.specs.Candidate.{IsHeld}
use Rattle.bean_reductions.proofs.CandidateFacts.{all_held, wanted}
use Rattle.bean_reductions.proofs.reduction.takes.reduce.Goals as goal

pub reduce_candidates-requires-clause-held : goal.reduce_candidates-requires-clause-held
reduce_candidates-requires-clause-held c =
    let wide = to_z w128 (of_z w128 c.scaled-want.result) in
    subst (AllByRecursion IsHeld) (sym c.in_ok-found.ensures)
    (all_held c.args.selector.now wide c.args.inventory.now)

pub reduce_candidates-requires-clause-wanted : goal.reduce_candidates-requires-clause-wanted
reduce_candidates-requires-clause-wanted c = λ p.
    let wide = to_z w128 (of_z w128 c.scaled-want.result) in
    wanted c.args.selector.now wide c.args.inventory.now
    (subst (λ l. 0 < length l) c.in_ok-found.ensures p)
