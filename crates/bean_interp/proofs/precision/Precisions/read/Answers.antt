use Rattle.std.proofs.Common.{sym, ◌∙◌, arith}
use Rattle.bean_interp.specs.Tolerance.{with_written}
use Rattle.bean_interp.proofs.PrecisionFacts.{precision_next}
use Rattle.bean_interp.proofs.precision.Precisions.read.Goals as goal

pub loop-leg-preserved : goal.loop-leg-preserved
loop-leg-preserved c = λ other.
    let legs = c.args.legs.now in
    let i = c.loop-leg.leg-index in
    let leg = c.leg-item.result in
    c.in_ok-note_leg.ensures other
    ∙ (λ k. with_written (c.leg-item.is k) other (c.loop-leg.invariant other k))
    ∙ sym (precision_next legs i leg other (omega arith))
