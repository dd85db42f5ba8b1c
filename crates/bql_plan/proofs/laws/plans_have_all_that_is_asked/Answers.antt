use Rattle.bql_plan.proofs.LawFacts.{order_is_shown, aggregates_are_counted, stands}
use Rattle.bql_plan.proofs.laws.plans_have_all_that_is_asked.Goals as goal

pub returns : goal.returns
returns c = record { order = order_is_shown; aggregates = aggregates_are_counted; keys = stands }
