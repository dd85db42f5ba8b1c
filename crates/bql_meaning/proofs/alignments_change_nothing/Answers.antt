use Rattle.bql_meaning.proofs.AlignmentFacts.{alike, members_aligned}
use Rattle.bql_meaning.proofs.alignments_change_nothing.Goals as goal

pub returns : goal.returns
returns c = record { operands = alike; members = members_aligned }
