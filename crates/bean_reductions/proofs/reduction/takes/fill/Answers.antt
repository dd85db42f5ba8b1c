use Rattle.std.proofs.Common.{◌≡◌, ◌==◌, false, ◌++◌, ◌∷◌, [], map, min, to_z, of_z, arith, ap, ◌∙◌, subst}
use Rattle.std.specs.Int.{w128}
use Rattle.std.specs.Int.RustNames.{unsigned_abs}
use Rattle.std.proofs.lemmas.Int.{to_z-of_z}
use Rattle.std.proofs.lemmas.Bool.Decides.{nat_tests}
use Rattle.bean_reductions.specs.Take.{take_counts}
use Rattle.bean_reductions.specs.Take.{signed_take, signed_takes}
use Rattle.bean_reductions.proofs.FillingFacts.{more, nothing_wanted, none_left}
use Rattle.bean_reductions.specs.Filling.{filled}
use Rattle.bean_reductions.proofs.reduction.takes.fill.Goals as goal

pub loop-c-preserved : goal.loop-c-preserved
loop-c-preserved c =
    let item = c.c-item.result in
    let rest = c.loop-c.rest in
    let want = to_z w128 (of_z w128 c.args.want) in
    let done = map take_counts c.loop-c.takes.items in
    let some : (rest == 0) ≡ false = grind (arith, nat_tests) in
    let units : c.min-units.result ≡ min item.1 rest =
    c.min-units.ensures ∙ ap (λ n. min n rest) c.units.ensures in
    let next =
    more c.args.queue.now c.loop-c.c-index item want rest done _ (omega arith) c.c-item.is some
    c.loop-c.invariant.told in
    let pushed :
    map take_counts c.push_take.new.takes.items
    ≡ done ++ signed_take want (item.0, min item.1 rest) ∷ [] =
    c.in_ok-push_take.ensures ∙ ap (λ n. done ++ signed_take want (item.0, n) ∷ []) units in
    record {
      small = omega arith;
      told = rw (pushed, units) next;
    }

pub returns-then-rest-eq0 : goal.returns-then-rest-eq0
returns-then-rest-eq0 c =
    let want = to_z w128 (of_z w128 c.args.want) in
    let done = map take_counts c.loop-c.takes.items in
    subst (λ w. done ≡ signed_takes w (filled c.args.queue.now (unsigned_abs w)))
    (to_z-of_z w128 c.args.want c.ranges.want)
    (nothing_wanted c.args.queue.now c.loop-c.c-index want c.loop-c.rest done _ c.if-rest-eq0.true c.loop-c.invariant.told)

pub returns : goal.returns
returns c =
    let want = to_z w128 (of_z w128 c.args.want) in
    let done = map take_counts c.loop-c.takes.items in
    subst (λ w. done ≡ signed_takes w (filled c.args.queue.now (unsigned_abs w)))
    (to_z-of_z w128 c.args.want c.ranges.want)
    (none_left c.args.queue.now c.loop-c.c-index want c.loop-c.rest done _ c.loop-c-test.false c.loop-c.invariant.told)
