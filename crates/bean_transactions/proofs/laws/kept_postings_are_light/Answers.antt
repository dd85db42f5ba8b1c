use Rattle.bean_transactions.proofs.LightFacts.{kept_light}
use Rattle.bean_transactions.proofs.laws.kept_postings_are_light.Goals as goal

pub returns : goal.returns
returns c = kept_light
