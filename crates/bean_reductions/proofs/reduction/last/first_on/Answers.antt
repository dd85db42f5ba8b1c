use Rattle.std.proofs.Common.{◌≡◌, ◌≤◌, ◌^◌, sum_by, to_z, of_z, arith, ap, subst, sym, ◌∙◌}
use Rattle.std.specs.Int.{w128}
use Rattle.std.specs.Int.RustNames.{unsigned_abs}
use Rattle.std.proofs.lemmas.Int.{ints}
use Rattle.bean_base.specs.Day.{number}
use Rattle.bean_inventories.specs.Part.{HasAllOf}
use Rattle.bean_inventories.proofs.PartFacts.{middle}
use Rattle.bean_reductions.specs.After.{IsSmall, after}
use Rattle.bean_reductions.specs.Back.{AreBy, IsFirst}
use Rattle.bean_reductions.specs.Candidate.{candidates}
use Rattle.bean_reductions.specs.Take.{units_of}
use Rattle.bean_reductions.proofs.FrontFacts.{by_day}
use Rattle.bean_reductions.proofs.LastDayFacts.{first_of, narrowed}
use Rattle.bean_reductions.proofs.PartFacts.{same_candidates}
use Rattle.bean_reductions.proofs.reduction.last.first_on.Goals as goal

pub candidates_after-requires-clause-held : goal.candidates_after-requires-clause-held
candidates_after-requires-clause-held c =
    let part = c.about-part.ensures in
    middle (IsSmall (2 ^ 125)) part.before c.about-part.result part.behind
    c.args.positions.now part.all c.requires.held

pub returns : goal.returns
returns c =
    let s = c.args.selector.now in
    let t = c.on-on_day.result in
    let es = c.args.positions.now in
    let taken = c.args.taken.now in
    let part = c.about-part.result in
    let wide = to_z w128 (of_z w128 c.args.want) in
    let want : wide ≡ c.args.want = omega (arith, ints) in
    let found = c.in_ok-found.found.items in
    let front = c.in_ok-found.ensures in
    let on = c.on-on_day.ensures in
    let same =
    same_candidates t wide part es taken
    (subst (λ o. HasAllOf o part es) (sym on.day) c.about-part.ensures) in
    let last =
    subst (λ w. AreBy (number c.args.day) (candidates s w (after es taken))) (sym want)
    c.requires.last in
    let short = c.shortfall.ensures in
    let sum = ap (sum_by units_of) c.deref.ensures.value in
    let units = c.unsigned_abs.ensures.value in
    let none = c.if-shortfall-gt0.false in
    let enough : unsigned_abs wide ≤ sum_by units_of found = omega (arith, short, sum, units, none) in
    subst (λ w. IsFirst (unsigned_abs w) found (candidates s w (after es taken))) want
    (first_of (number c.args.day) (unsigned_abs wide) found front.rest
    (candidates s wide (after es taken)) (candidates t wide (after es taken))
    (by_day s wide es taken c.requires.days) last
    (narrowed s t c.args.day wide (after es taken) c.requires.any on.currency on.cost on.day on.label)
    (sym same ∙ front.all) enough)
