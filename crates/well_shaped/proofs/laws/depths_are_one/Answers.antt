use Rattle.well_shaped.proofs.DepthFacts.{one_at_places, one_in_programs, few_in_programs}
use Rattle.well_shaped.proofs.laws.depths_are_one.Goals as goal

pub returns : goal.returns
returns c = record {
  places = one_at_places;
  programs = one_in_programs;
  few = few_in_programs;
}
