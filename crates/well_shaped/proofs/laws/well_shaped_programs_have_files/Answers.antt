use Rattle.well_shaped.proofs.FileProgramFacts.{have_files}
use Rattle.well_shaped.proofs.laws.well_shaped_programs_have_files.Goals as goal

pub returns : goal.returns
returns c = have_files
