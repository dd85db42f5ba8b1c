use Rattle.well_shaped.proofs.SafetyFacts.{safely_where_it_fits}
use Rattle.well_shaped.proofs.laws.programs_run_safely_where_ledgers_fit.Goals as goal

pub returns : goal.returns
returns c = safely_where_it_fits
