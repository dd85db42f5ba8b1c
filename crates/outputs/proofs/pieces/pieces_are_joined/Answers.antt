use Rattle.outputs.proofs.PieceFacts.{early, joined, one_piece}
use Rattle.outputs.proofs.pieces.pieces_are_joined.Goals as goal

pub returns-clause-one : goal.returns-clause-one
returns-clause-one g c = one_piece g.W.Output

pub returns-clause-joined : goal.returns-clause-joined
returns-clause-joined g c = joined g.W.Output

pub returns-clause-early : goal.returns-clause-early
returns-clause-early g c = early g.W.Output
