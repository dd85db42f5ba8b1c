use Rattle.bql_compiler.proofs.LoweredReadFacts.{reads_are_loaded}
use Rattle.bql_compiler.proofs.laws.what_is_read_is_loaded.Goals as goal

pub returns : goal.returns
returns c = reads_are_loaded
