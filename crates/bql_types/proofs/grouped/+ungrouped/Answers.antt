use Rattle.std.proofs.Common.{refl, sym, ap, ◌∙◌}
use Rattle.bql_tree.specs.Tree.{tree_of, trees_of}
use Rattle.bql_types.specs.Cause.{told}
use Rattle.bql_types.specs.Keys.{lent_trees}
use Rattle.bql_types.specs.Sought.{ungrouped, all_ungrouped}
use Rattle.bql_types.proofs.CauseFacts.{is_call, one_less, of_key, below_call}
use Rattle.bql_types.proofs.grouped.+ungrouped.Goals as goal

pub all_ungrouped-loop-e-preserved : goal.all_ungrouped-loop-e-preserved
all_ungrouped-loop-e-preserved t c =
    let keys = lent_trees c.args.keys.now in
    one_less (ungrouped keys) (all_ungrouped keys) (λ t ts. refl) c.args.es.now c.loop-e.e-index
    c.e-item.result c.loop-e.found c.ungrouped-found.result _ c.loop-e-test.true c.e-item.is
    c.ungrouped-found.ensures c.loop-e.invariant

pub ungrouped-returns-then-is_key : goal.ungrouped-returns-then-is_key
ungrouped-returns-then-is_key t c =
    sym (ap (told c.args.found)
    (of_key (lent_trees c.args.keys.now) (tree_of c.args.e.now)
    (sym c.is_key.ensures ∙ c.if-is_key.true)))

pub ungrouped-returns-else-is_aggregate_function :
    goal.ungrouped-returns-else-is_aggregate_function
ungrouped-returns-else-is_aggregate_function t c =
    let m = c.in-Call in
    let xs = c.deref-else-is_aggregate_function.result.now in
    c.all_ungrouped.ensures
    ∙ sym (ap (told c.args.found)
    (below_call (lent_trees c.args.keys.now) (tree_of c.args.e.now) m.field-0 m.function
    (trees_of xs)
    (is_call c.args.e.now m.field-0 m.function m.xs xs m.is
    c.deref-else-is_aggregate_function.ensures.value)
    (sym c.is_key.ensures ∙ c.if-is_key.false)
    (sym c.is_aggregate_function.ensures ∙ c.if-is_aggregate_function.false)))
