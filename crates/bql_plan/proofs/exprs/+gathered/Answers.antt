use Rattle.std.proofs.Common.{◌≡◌, sym, ◌∙◌, subst, IfOk}
use Rattle.theory.specs.Form.{steps}
use Rattle.bql_plan.specs.Plan.{added}
use Rattle.bql_plan.proofs.PlanFacts.{below_call}
use Rattle.bql_tree.specs.Tree.{tree_of, trees_of}
use Rattle.bql_types.proofs.CauseFacts.{is_call}
use Rattle.bql_types.specs.Keys.{lent_trees}
use Rattle.bql_plan.proofs.exprs.+gathered.Goals as goal

pub gathered-returns-else-is_aggregate_function : goal.gathered-returns-else-is_aggregate_function
gathered-returns-else-is_aggregate_function t c =
    let m = c.in-Call in
    let xs = c.deref-else-is_aggregate_function.result.now in
    subst (λ z. IfOk c.all_gathered.result
    (λ r. lent_trees r.items ≡ steps added (lent_trees c.args.found.items) z))
    (sym (below_call (tree_of c.args.e.now) m.field-0 m.function (trees_of xs)
    (is_call c.args.e.now m.field-0 m.function m.arguments xs m.is
    c.deref-else-is_aggregate_function.ensures.value)
    (sym c.is_aggregate_function.ensures ∙ c.if-is_aggregate_function.false)))
    c.all_gathered.ensures
