use Rattle.well_shaped.proofs.DepthFacts.{all_slots, few_values}
use Rattle.well_shaped.proofs.NamedFacts.{are_there}
use Rattle.well_shaped.proofs.laws.sections_have_what_they_name.Goals as goal

pub returns : goal.returns
returns c = record {
  named = are_there;
  stack = λ m code at q given. few_values m code at given q;
  slots = λ m code at q given. all_slots m code at given q;
}
