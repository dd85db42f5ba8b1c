use Rattle.std.proofs.Common.{◌≡◌, refl, sym, subst, ap, ◌∙◌, IfOk}
use Rattle.bql_tree.specs.Tree.{tree_of, trees_of}
use Rattle.bql_types.specs.Cause.{told}
use Rattle.bql_types.specs.Sought.{misplaced, all_misplaced, is_told}
use Rattle.bql_types.proofs.CauseFacts.{one_less, is_call, plain_call, aggregate_call}
use Rattle.bql_types.proofs.aggregates.+misplaced.Goals as goal

pub all_misplaced-loop-e-preserved : goal.all_misplaced-loop-e-preserved
all_misplaced-loop-e-preserved t c =
    let b = c.args.bounds.now in
    let is_inside = c.args.is_inside in
    one_less (misplaced b is_inside) (all_misplaced b is_inside) (λ t ts. refl) c.args.es.now
    c.loop-e.e-index c.e-item.result c.loop-e.found c.in_ok-found.found _ c.loop-e-test.true
    c.e-item.is c.in_ok-found.ensures c.loop-e.invariant

pub misplaced-returns-then-not-is_aggregate_function :
    goal.misplaced-returns-then-not-is_aggregate_function
misplaced-returns-then-not-is_aggregate_function t c =
    let m = c.in-Call in
    let xs = c.deref-then-not-is_aggregate_function.result.now in
    subst (λ cs. IfOk c.all_misplaced.result (λ r. r ≡ told c.args.found cs))
    (sym (plain_call c.args.bounds.now c.args.is_inside (tree_of c.args.e.now) m.place m.function
    (trees_of xs)
    (is_call c.args.e.now m.place m.function m.xs xs m.is
    c.deref-then-not-is_aggregate_function.ensures.value)
    (sym c.is_aggregate_function.ensures ∙ c.if-not-is_aggregate_function.true)))
    c.all_misplaced.ensures

pub misplaced-returns-in_ok-is_cause-in-Call : goal.misplaced-returns-in_ok-is_cause-in-Call
misplaced-returns-in_ok-is_cause-in-Call t c =
    let m = c.in-Call in
    let b = c.args.bounds.now in
    let xs = c.deref-in-Call-2.result.now in
    subst (λ z. IfOk c.all_misplaced-in-Call.result (λ r. r ≡ z))
    (aggregate_call b c.args.is_inside (tree_of c.args.e.now) m.place m.function (trees_of xs)
    c.args.found c.where_true-in-Call.result c.in_ok-is_cause-in-Call.is_cause c.at-cause.result
    (is_call c.args.e.now m.place m.function m.xs xs m.is c.deref-in-Call-2.ensures.value)
    (sym c.is_aggregate_function.ensures ∙ c.if-not-is_aggregate_function.false)
    (c.in_ok-is_cause-in-Call.ensures
    ∙ ap (λ es. is_told b c.args.is_inside (trees_of es))
    (c.deref-in-Call.ensures.value ∙ sym c.deref-in-Call-2.ensures.value))
    c.at-cause.ensures c.where_true-in-Call.ensures)
    c.all_misplaced-in-Call.ensures
