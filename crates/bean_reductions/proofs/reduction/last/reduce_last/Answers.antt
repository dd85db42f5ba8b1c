use Rattle.std.proofs.Common.{◌≡◌, ◌<◌, length, reverse, to_z, of_z, arith, subst, sym}
use Rattle.std.specs.Int.{w128}
use Rattle.std.specs.List.{AllByRecursion}
use Rattle.std.proofs.lemmas.Int.{ints}
use Rattle.bean_reductions.specs.After.{after}
use Rattle.bean_reductions.specs.Candidate.{IsHeld, candidates}
use Rattle.bean_reductions.specs.Reduction.{Reduces}
use Rattle.bean_reductions.specs.declared.reduction.Method.TheVariants.{Lifo}
use Rattle.bean_reductions.proofs.BackFacts.{back_held, back_some, of_back}
use Rattle.bean_reductions.proofs.CandidateFacts.{all_held, wanted}
use Rattle.bean_reductions.proofs.reduction.last.reduce_last.Goals as goal

pub reduce_candidates-requires-clause-held : goal.reduce_candidates-requires-clause-held
reduce_candidates-requires-clause-held c =
    let left = after c.args.positions c.args.taken.now in
    let back = c.in_ok-found.ensures in
    let wide = to_z w128 (of_z w128 c.args.want) in
    subst (AllByRecursion IsHeld) (sym c.reverse.ensures.items)
    (back_held back.rest (reverse c.in_ok-found.found.items)
    (subst (AllByRecursion IsHeld) back.all (all_held c.args.selector.now wide left)))

pub reduce_candidates-requires-clause-wanted : goal.reduce_candidates-requires-clause-wanted
reduce_candidates-requires-clause-wanted c = λ p.
    let left = after c.args.positions c.args.taken.now in
    let back = c.in_ok-found.ensures in
    let wide = to_z w128 (of_z w128 c.args.want) in
    wanted c.args.selector.now wide left
    (subst (λ l. 0 < length l) (sym back.all)
    (back_some back.rest (reverse c.in_ok-found.found.items)
    (subst (λ l. 0 < length l) c.reverse.ensures.items p)))

pub returns : goal.returns
returns c =
    let s = c.args.selector.now in
    let left = after c.args.positions c.args.taken.now in
    let wide = to_z w128 (of_z w128 c.args.want) in
    let want : wide ≡ c.args.want = omega (arith, ints) in
    let found = reverse c.in_ok-found.found.items in
    subst (λ w. Reduces Lifo (candidates s w left) w c.reduce_candidates.result) want
    (of_back found (candidates s wide left) wide c.reduce_candidates.result
    c.in_ok-found.ensures (all_held s wide left) (wanted s wide left)
    (subst (λ f. Reduces Lifo f wide c.reduce_candidates.result) c.reverse.ensures.items
    c.reduce_candidates.ensures))
