use Rattle.std.proofs.Common.{◌≡◌, map, to_z, of_z, arith, ap, ◌∙◌, subst}
use Rattle.std.specs.Int.{w128}
use Rattle.std.specs.Int.RustNames.{unsigned_abs}
use Rattle.std.proofs.lemmas.Int.{ints}
use Rattle.bean_reductions.specs.Take.{signed_takes, take_counts}
use Rattle.bean_reductions.specs.Filling.{filled}
use Rattle.bean_reductions.proofs.CandidateFacts.{made_at, refused_at}
use Rattle.bean_reductions.proofs.reduction.takes.reduce_candidates.Goals as goal

pub returns-in-Ok : goal.returns-in-Ok
returns-in-Ok c =
    let m = c.args.method in
    let q = c.arrange.new.queue.items in
    let v = map take_counts c.in_ok-fill-in-Ok.field-0.items in
    let want : to_z w128 (of_z w128 c.args.want) ≡ c.args.want = omega (arith, ints) in
    let taken =
    subst (λ r. v
    ≡ signed_takes (to_z w128 (of_z w128 c.args.want))
    (filled r (unsigned_abs (to_z w128 (of_z w128 c.args.want))))) c.deref-in-Ok.ensures.value
    c.in_ok-fill-in-Ok.ensures in (
      filled q (unsigned_abs c.args.want),
      subst (λ w. v ≡ signed_takes w (filled q (unsigned_abs w))) want taken,
      made_at m c.args.want c.args.queue.items q c.deref.result.now c.unsigned_abs.result
          c.requires.held c.requires.wanted c.in_ok-arrange.ensures.queue
          c.in_ok-arrange.ensures.same c.deref.ensures.value
          (c.unsigned_abs.ensures.value ∙ ap unsigned_abs want) c.in-Ok.ensures,
    )

pub returns : goal.returns
returns c =
    let want : to_z w128 (of_z w128 c.args.want) ≡ c.args.want = omega (arith, ints) in
    refused_at c.args.method c.args.want c.args.queue.items c.arrange.new.queue.items
    c.deref.result.now c.unsigned_abs.result c.in-Err.fault c.in_ok-arrange.ensures.queue
    c.in_ok-arrange.ensures.same c.deref.ensures.value
    (c.unsigned_abs.ensures.value ∙ ap unsigned_abs want) c.in-Err.ensures
