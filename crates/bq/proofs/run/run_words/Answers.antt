use Rattle.std.proofs.Common.{◌∙◌, Err, subst}
use Rattle.outputs.specs.Output.{TookFront}
use Rattle.bq.proofs.run.run_words.Goals as goal

pub returns-in-Err : goal.returns-in-Err
returns-in-Err g c =
    let line = c.as_bytes.ensures.value ∙ (c.deref.ensures.0 ∙ c.line.ensures) in record {
      result = Err c.in-Err.refusal;
      runs = c.in-Err.ensures;
      status_is = c.status-in-Err.ensures;
      tells = (
        c.write_bytes.result,
        subst
            (λ bytes. TookFront g.E.Output c.args.err.now c.write_bytes.new.out bytes
            c.write_bytes.result) line c.write_bytes.ensures,
      );
    }
