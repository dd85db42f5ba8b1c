use Rattle.std.proofs.Common.{◌||◌, sym, ap, ◌∙◌}
use Rattle.bql_tree.specs.Tree.{trees_of}
use Rattle.bql_types.specs.Sought.{aggregates, one_aggregates}
use Rattle.bql_types.proofs.CauseFacts.{is_call}
use Rattle.bql_types.proofs.aggregates.+aggregates.Goals as goal

pub aggregates-returns-else-is_aggregate_function :
    goal.aggregates-returns-else-is_aggregate_function
aggregates-returns-else-is_aggregate_function t c =
    let m = c.in-Call in
    let xs = c.deref-else-is_aggregate_function.result.now in
    c.one_aggregates.ensures
    ∙ sym (ap aggregates
    (is_call c.args.e.now m.field-0 m.function m.xs xs m.is
    c.deref-else-is_aggregate_function.ensures.value)
    ∙ ap (λ b. b || one_aggregates (trees_of xs))
    (sym c.is_aggregate_function.ensures ∙ c.if-is_aggregate_function.false))
