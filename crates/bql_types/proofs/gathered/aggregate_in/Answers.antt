use Rattle.std.proofs.Common.{sym, ap, ◌∙◌}
use Rattle.bql_types.specs.Gathered.{of_call, aggregate_in}
use Rattle.bql_types.proofs.CauseFacts.{is_call}
use Rattle.bql_types.proofs.gathered.aggregate_in.Goals as goal

pub returns-in_ok-all-in-Call : goal.returns-in_ok-all-in-Call
returns-in_ok-all-in-Call c =
    let m = c.in-Call in
    c.called_on.ensures
    ∙ ap (λ z. of_call m.function z.shapes) c.in_ok-all-in-Call.ensures
    ∙ sym (ap (aggregate_in c.args.bounds.now)
    (is_call c.args.e.now m.field-0 m.function m.arguments c.deref.result.now m.is
    c.deref.ensures.value))
