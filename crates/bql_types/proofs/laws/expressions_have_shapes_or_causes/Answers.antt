use Rattle.bql_types.proofs.LawFacts.{shapes_are_found, shapes_have_no_causes}
use Rattle.bql_types.proofs.laws.expressions_have_shapes_or_causes.Goals as goal

pub returns : goal.returns
returns c = record { shapes = shapes_are_found; causes = shapes_have_no_causes }
