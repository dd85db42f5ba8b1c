use Rattle.std.proofs.Common.{map, sym, ap, ◌∙◌}
use Rattle.query_values.specs.Choice.{day_choice}
use Rattle.query_values.specs.Operation.{is_among}
use Rattle.query_values.proofs.MembershipFacts.{among_days, no_day}
use Rattle.query_values.proofs.membership.in_days.Goals as goal

pub returns-in-Day : goal.returns-in-Day
returns-in-Day c =
    c.has_day.ensures ∙ among_days c.in-Day.day c.args.days.now
    ∙ ap (is_among (map day_choice c.args.days.now)) (sym c.in-Day.is)

pub returns-in_default : goal.returns-in_default
returns-in_default c = no_day c.args.x.now c.args.days.now c.in_default.not-Day
