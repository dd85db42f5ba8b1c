use Rattle.std.proofs.Common.{sym, ap, ◌∙◌}
use Rattle.bql_plan.specs.Plan.{first_part}
use Rattle.bql_types.proofs.CauseFacts.{is_call}
use Rattle.bql_plan.proofs.exprs.first_part.Goals as goal

pub returns-in-Call : goal.returns-in-Call
returns-in-Call c =
    let m = c.in-Call in
    c.first_of.ensures
    ∙ sym (ap first_part
    (is_call c.args.e.now m.field-0 m.field-1 m.arguments c.deref-in-Call.result.now m.is
    c.deref-in-Call.ensures.value))
