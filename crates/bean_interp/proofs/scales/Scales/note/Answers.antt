use Rattle.bean_interp.proofs.ScalesFacts.{one_more_noted}
use Rattle.bean_interp.proofs.scales.Scales.note.Goals as goal

pub returns-clause-noted : goal.returns-clause-noted
returns-clause-noted c =
    one_more_noted c.args.self.now (record c.args.self.now { precisions = c.note_leg.new.self })
    c.note_leg.result c.args.leg.now c.note_leg.ensures
