use Rattle.std.proofs.Common.{ap₂, arith, ◌∙◌}
use Rattle.final_rows.proofs.LastFacts.{last_more}
use Rattle.final_rows.specs.Enough.{later_of}
use Rattle.final_rows.proofs.trimming.last_of.Goals as goal

pub loop-number-preserved : goal.loop-number-preserved
loop-number-preserved c =
    let o = c.args.output.now in
    let some = c.loop-number.invariant.some in
    let test = c.loop-number-test.true in
    let many = c.requires.many in
    record {
      some = omega (arith, some);
      last = c.later-last.ensures ∙ ap₂ (later_of o) c.loop-number.invariant.last c.row.ensures
          ∙ last_more o c.args.rows.now c.loop-number.number some (omega (arith, test, many));
    }
