use Rattle.bql_parser.proofs.SmallLaw as law
use Rattle.bql_parser.proofs.laws.queries_are_small.Goals as goal

pub returns : goal.returns
returns c = law.queries_are_small
