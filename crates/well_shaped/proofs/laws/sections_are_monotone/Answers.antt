use Rattle.well_shaped.proofs.BelowFacts.{acts_below}
use Rattle.well_shaped.proofs.EndFacts.{filter_below, row_below, groups_below}
use Rattle.well_shaped.proofs.laws.sections_are_monotone.Goals as goal

pub returns-clause-acts : goal.returns-clause-acts
returns-clause-acts c = acts_below

pub returns-clause-ends : goal.returns-clause-ends
returns-clause-ends c = record { filter = filter_below; row = row_below; groups = groups_below }
