use Rattle.query_rows.proofs.RisingFacts.{unary_rises, binary_rises}
use Rattle.query_rows.proofs.laws.rules_are_monotone.Goals as goal

pub returns : goal.returns
returns c = record { unary = unary_rises; binary = binary_rises }
