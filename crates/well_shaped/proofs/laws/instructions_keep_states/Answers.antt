use Rattle.query_rows.specs.Shape.{IsBelow, LiesIn}
use Rattle.well_shaped.proofs.FrameFacts.{effect_kept}
use Rattle.well_shaped.proofs.laws.instructions_keep_states.Goals as goal

pub returns-clause-below : goal.returns-clause-below
returns-clause-below c = effect_kept IsBelow

pub returns-clause-values : goal.returns-clause-values
returns-clause-values c = effect_kept LiesIn
