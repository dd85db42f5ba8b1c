use Rattle.std.proofs.Common.{ap, arith, get_or, slice_set, ◌∙◌}
use Rattle.std.proofs.lemmas.List.{get_or_default}
use Rattle.std.proofs.lemmas.List.Edits.{map_over_more}
use Rattle.query_answer.specs.Spans.{narrowed_to}
use Rattle.query_answer.proofs.rows.narrow_all.Goals as goal

pub loop-i-preserved : goal.loop-i-preserved
loop-i-preserved c =
    let ss = c.loop-i.spans in
    let i = c.loop-i.i in
    let s = get_or ss i (record { start = 0; end = 0 }) in
    let long = c.loop-i.auto.spans in
    let test = c.loop-i-test.true in
    ap (slice_set ss i) c.narrowed.ensures
    ∙ map_over_more (narrowed_to c.args.width) c.args.spans.now ss i s test c.loop-i.invariant
    (get_or_default ss i (record { start = 0; end = 0 }) s (omega (arith, long, test)))
