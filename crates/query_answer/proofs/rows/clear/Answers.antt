use Rattle.std.proofs.Common.{arith, get_or}
use Rattle.std.proofs.lemmas.List.{get_or_default}
use Rattle.std.proofs.lemmas.List.Edits.{map_over_more}
use Rattle.query_values.specs.declared.value.Value.TheVariants.{Null}
use Rattle.query_answer.proofs.rows.clear.Goals as goal

pub loop-i-preserved : goal.loop-i-preserved
loop-i-preserved c =
    let vs = c.loop-i.values in
    let i = c.loop-i.i in
    let v = get_or vs i Null in
    let long = c.loop-i.auto.values in
    let test = c.loop-i-test.true in
    map_over_more (λ v. Null) c.args.values.now vs i v test c.loop-i.invariant
    (get_or_default vs i Null v (omega (arith, long, test)))
