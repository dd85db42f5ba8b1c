use Rattle.std.proofs.Common.{◌≡◌, ◌<◌, length, to_z, of_z, arith, subst, sym}
use Rattle.std.specs.Int.{w128}
use Rattle.std.specs.List.{AllByRecursion}
use Rattle.std.proofs.lemmas.Int.{ints}
use Rattle.bean_reductions.specs.After.{after}
use Rattle.bean_reductions.specs.Candidate.{IsHeld, candidates}
use Rattle.bean_reductions.specs.Reduction.{Reduces}
use Rattle.bean_reductions.proofs.CandidateFacts.{all_held, wanted}
use Rattle.bean_reductions.proofs.FrontFacts.{front_held, front_some, of_all}
use Rattle.bean_reductions.proofs.reduction.by_cost.reduce_from.Goals as goal

pub reduce_candidates-requires-clause-held : goal.reduce_candidates-requires-clause-held
reduce_candidates-requires-clause-held c =
    let left = after c.args.positions c.args.taken.now in
    let wide = to_z w128 (of_z w128 c.args.want) in
    let front = c.in_ok-found.ensures in
    front_held c.in_ok-found.found.items front.rest
    (subst (AllByRecursion IsHeld) front.all (all_held c.args.selector.now wide left))

pub reduce_candidates-requires-clause-wanted : goal.reduce_candidates-requires-clause-wanted
reduce_candidates-requires-clause-wanted c = λ p.
    let left = after c.args.positions c.args.taken.now in
    let wide = to_z w128 (of_z w128 c.args.want) in
    let front = c.in_ok-found.ensures in
    wanted c.args.selector.now wide left
    (subst (λ l. 0 < length l) (sym front.all) (front_some c.in_ok-found.found.items front.rest p))

pub returns : goal.returns
returns c =
    let s = c.args.selector.now in
    let left = after c.args.positions c.args.taken.now in
    let wide = to_z w128 (of_z w128 c.args.want) in
    let want : wide ≡ c.args.want = omega (arith, ints) in
    subst (λ w. Reduces c.args.method (candidates s w left) w c.reduce_candidates.result) want
    (of_all c.args.method _ c.in_ok-found.found.items (candidates s wide left) wide
    c.reduce_candidates.result c.in_ok-found.ensures tt
    (all_held s wide left) (wanted s wide left) c.reduce_candidates.ensures)
