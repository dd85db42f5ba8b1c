use Rattle.std.proofs.Common.{◌≡◌, ◌<◌, ◌^◌, length, to_z, of_z, arith, subst, sym, IfSome, List}
use Rattle.std.proofs.Common.{ℕ, ℤ}
use Rattle.std.specs.Int.{w128}
use Rattle.std.specs.Int.RustNames.{unsigned_abs}
use Rattle.std.specs.List.{AllByRecursion}
use Rattle.std.proofs.lemmas.Int.{ints}
use Rattle.bean_base.specs.Decimal.{scaled}
use Rattle.bean_reductions.specs.After.{AreSmall, IsSmall, after}
use Rattle.bean_reductions.specs.Candidate.{IsHeld, candidates}
use Rattle.bean_reductions.specs.Front.{IsFront}
use Rattle.bean_reductions.specs.Reduction.{Reduces}
use Rattle.bean_reductions.proofs.CandidateFacts.{all_held, wanted}
use Rattle.bean_reductions.specs.declared.reduction.Method.TheVariants.{Lifo}
use Rattle.bean_reductions.proofs.FrontFacts.{front_held, front_some, of_all, settles}
use Rattle.bean_lots.specs.declared.lot.Position.{Position}
use Rattle.bean_inventories.proofs.PartFacts.{middle}
use Rattle.bean_reductions.proofs.PartFacts.{same_candidates}
use Rattle.bean_reductions.proofs.RestFacts.{front_of_rest, rise_rest, same_left, small_rest}
use Rattle.bean_reductions.proofs.reduction.after.reduce_after.Goals as goal

pub reduce_from-requires-clause-held : goal.reduce_from-requires-clause-held
reduce_from-requires-clause-held c =
    let known = c.known_positions.ensures.small in
    subst (λ o. IfSome o (λ part. (n : ℕ) → AreSmall n c.args.inventory.now → AreSmall n part))
    c.in-Some.is known _ c.requires.held

pub returns-in-Some : goal.returns-in-Some
returns-in-Some c =
    let s = c.args.selector.now in
    let es = c.args.inventory.now in
    let taken = c.args.taken.now in
    let part = c.in-Some.part in
    let wide = to_z w128 (of_z w128 c.scaled-want.result) in
    let want : wide ≡ scaled c.args.units.count c.args.units.places 8 =
    omega (arith, ints, c.scaled-want.ensures.value) in
    let all =
    subst (λ o. IfSome o (λ part. (want : ℤ) (taken : List Position)
    → candidates s want (after part taken) ≡ candidates s want (after es taken)))
    c.in-Some.is c.known_positions.ensures.all in
    subst (λ w. Reduces c.args.method (candidates s w (after es taken)) w c.reduce_from.result) want
    (subst (λ l. Reduces c.args.method l wide c.reduce_from.result) (all wide taken)
    c.reduce_from.ensures)

pub reduce_last_in-requires-clause-held : goal.reduce_last_in-requires-clause-held
reduce_last_in-requires-clause-held c =
    small_rest c.args.taken.now c.args.rest.now c.args.inventory.now c.requires.rest c.requires.held

pub reduce_last_in-requires-clause-days : goal.reduce_last_in-requires-clause-days
reduce_last_in-requires-clause-days c =
    rise_rest c.args.taken.now c.args.rest.now c.args.inventory.now c.requires.rest
    (c.is_back_enough.ensures c.if-is_back_enough.true).1

pub returns-then-is_back_enough : goal.returns-then-is_back_enough
returns-then-is_back_enough c =
    let s = c.args.selector.now in
    let es = c.args.rest.now in
    let taken = c.args.taken.now in
    let wide = to_z w128 (of_z w128 c.scaled-want.result) in
    let want : wide ≡ scaled c.args.units.count c.args.units.places 8 =
    omega (arith, ints, c.scaled-want.ensures.value) in
    let lifo = sym (c.is_back_enough.ensures c.if-is_back_enough.true).0 in
    let left = same_left taken es c.args.inventory.now c.requires.rest in
    subst (λ l. Reduces c.args.method
    (candidates s (scaled c.args.units.count c.args.units.places 8) l)
    (scaled c.args.units.count c.args.units.places 8) c.reduce_last_in.result) left
    (subst (λ m. Reduces m
    (candidates s (scaled c.args.units.count c.args.units.places 8) (after es taken))
    (scaled c.args.units.count c.args.units.places 8) c.reduce_last_in.result) lifo
    (subst (λ w. Reduces Lifo (candidates s w (after es taken)) w c.reduce_last_in.result) want
    c.reduce_last_in.ensures))

pub candidates_after-requires-clause-held : goal.candidates_after-requires-clause-held
candidates_after-requires-clause-held c =
    let part = c.about-part.ensures in
    middle (IsSmall (2 ^ 125)) part.before c.about-part.result part.behind c.args.rest.now part.all
    (small_rest c.args.taken.now c.args.rest.now c.args.inventory.now c.requires.rest
    c.requires.held)

pub reduce_candidates-requires-clause-held : goal.reduce_candidates-requires-clause-held
reduce_candidates-requires-clause-held c =
    let left = after c.about-part.result c.args.taken.now in
    let front = c.in_ok-found.ensures in
    let wide = to_z w128 (of_z w128 c.scaled-want.result) in
    front_held c.in_ok-found.found.items front.rest
    (subst (AllByRecursion IsHeld) front.all (all_held c.args.selector.now wide left))

pub reduce_candidates-requires-clause-wanted : goal.reduce_candidates-requires-clause-wanted
reduce_candidates-requires-clause-wanted c = λ p.
    let left = after c.about-part.result c.args.taken.now in
    let front = c.in_ok-found.ensures in
    let wide = to_z w128 (of_z w128 c.scaled-want.result) in
    wanted c.args.selector.now wide left
    (subst (λ l. 0 < length l) (sym front.all) (front_some c.in_ok-found.found.items front.rest p))

pub returns : goal.returns
returns c =
    let s = c.args.selector.now in
    let es = c.args.rest.now in
    let taken = c.args.taken.now in
    let wide = to_z w128 (of_z w128 c.scaled-want.result) in
    let want : wide ≡ scaled c.args.units.count c.args.units.places 8 =
    omega (arith, ints, c.scaled-want.ensures.value) in
    let front = c.front_for-front.result in
    let same = same_candidates s wide c.about-part.result es taken c.about-part.ensures in
    let left = same_left taken es c.args.inventory.now c.requires.rest in
    subst
    (λ w. Reduces c.args.method (candidates s w (after c.args.inventory.now taken)) w
    c.reduce_candidates.result)
    want
    (subst (λ l. Reduces c.args.method (candidates s wide l) wide c.reduce_candidates.result) left
    (of_all c.args.method front c.in_ok-found.found.items
    (candidates s wide (after es taken)) wide c.reduce_candidates.result
    (subst (IsFront front (unsigned_abs wide) c.in_ok-found.found.items) same
    c.in_ok-found.ensures)
    (settles front c.args.method s wide es taken
    (front_of_rest front c.args.method taken es c.args.inventory.now c.requires.rest
    c.front_for-front.ensures))
    (all_held s wide (after es taken)) (wanted s wide (after es taken))
    c.reduce_candidates.ensures))
