use Rattle.bql_types.proofs.StandingFacts.{journals_are_typed, balances_are_typed}
use Rattle.bql_types.proofs.laws.only_filters_are_at_fault.Goals as goal

pub returns : goal.returns
returns c = record { journals = journals_are_typed; balances = balances_are_typed }
