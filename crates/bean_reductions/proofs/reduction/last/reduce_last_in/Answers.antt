use Rattle.std.proofs.Common.{◌≡◌, ◌^◌, to_z, of_z, arith, subst, IfSome}
use Rattle.std.specs.Int.{w128}
use Rattle.std.specs.Int.RustNames.{unsigned_abs}
use Rattle.std.proofs.lemmas.Int.{ints}
use Rattle.bean_inventories.proofs.PartFacts.{middle}
use Rattle.bean_reductions.specs.After.{IsSmall, after}
use Rattle.bean_reductions.specs.Back.{IsFirst}
use Rattle.bean_reductions.specs.Candidate.{candidates}
use Rattle.bean_reductions.specs.Reduction.{Reduces}
use Rattle.bean_reductions.specs.declared.reduction.Method.TheVariants.{Lifo}
use Rattle.bean_reductions.proofs.CandidateFacts.{all_held, wanted}
use Rattle.bean_reductions.proofs.LastDayFacts.{first_held, first_some, of_first}
use Rattle.bean_reductions.proofs.LastFacts.{rise_part}
use Rattle.bean_reductions.proofs.PartFacts.{same_candidates}
use Rattle.bean_reductions.proofs.reduction.last.reduce_last_in.Goals as goal

pub reduce_candidates-requires-clause-held : goal.reduce_candidates-requires-clause-held
reduce_candidates-requires-clause-held c =
    let s = c.args.selector.now in
    let wide = to_z w128 (of_z w128 c.args.want) in
    let left = after c.args.positions.now c.args.taken.now in
    let first =
    subst (λ o. IfSome o (λ f. IsFirst (unsigned_abs wide) f.items (candidates s wide left)))
    c.in-Some.is c.in_ok-found.ensures in
    first_held (unsigned_abs wide) c.in-Some.found.items (candidates s wide left) first
    (all_held s wide left)

pub reduce_candidates-requires-clause-wanted : goal.reduce_candidates-requires-clause-wanted
reduce_candidates-requires-clause-wanted c = λ p.
    let s = c.args.selector.now in
    let wide = to_z w128 (of_z w128 c.args.want) in
    let left = after c.args.positions.now c.args.taken.now in
    let first =
    subst (λ o. IfSome o (λ f. IsFirst (unsigned_abs wide) f.items (candidates s wide left)))
    c.in-Some.is c.in_ok-found.ensures in
    wanted s wide left
    (first_some (unsigned_abs wide) c.in-Some.found.items (candidates s wide left) first p)

pub returns-in-Some : goal.returns-in-Some
returns-in-Some c =
    let s = c.args.selector.now in
    let wide = to_z w128 (of_z w128 c.args.want) in
    let want : wide ≡ c.args.want = omega (arith, ints) in
    let left = after c.args.positions.now c.args.taken.now in
    let first =
    subst (λ o. IfSome o (λ f. IsFirst (unsigned_abs wide) f.items (candidates s wide left)))
    c.in-Some.is c.in_ok-found.ensures in
    subst (λ w. Reduces Lifo (candidates s w left) w c.reduce_candidates.result) want
    (of_first c.in-Some.found.items (candidates s wide left) wide c.reduce_candidates.result first
    (all_held s wide left) (wanted s wide left) c.reduce_candidates.ensures)

pub reduce_last-requires-clause-held : goal.reduce_last-requires-clause-held
reduce_last-requires-clause-held c =
    let part = c.about-part.ensures in
    middle (IsSmall (2 ^ 125)) part.before c.about-part.result part.behind
    c.args.positions.now part.all c.requires.held

pub reduce_last-requires-clause-days : goal.reduce_last-requires-clause-days
reduce_last-requires-clause-days c =
    rise_part c.args.selector.now.day c.about-part.result c.args.positions.now
    c.about-part.ensures c.requires.days

pub returns-in-None : goal.returns-in-None
returns-in-None c =
    let s = c.args.selector.now in
    let es = c.args.positions.now in
    let taken = c.args.taken.now in
    let wide = to_z w128 (of_z w128 c.args.want) in
    let want : wide ≡ c.args.want = omega (arith, ints) in
    let same =
    same_candidates s wide c.about-part.result es taken c.about-part.ensures in
    subst (λ w. Reduces Lifo (candidates s w (after es taken)) w c.reduce_last.result) want
    (subst (λ l. Reduces Lifo l wide c.reduce_last.result) same c.reduce_last.ensures)
