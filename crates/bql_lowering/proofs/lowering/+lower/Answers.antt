use Rattle.std.proofs.Common.{rules, ◌≡◌, IfOk, sym, subst, ap, ap₂, ◌∙◌}
use Rattle.bql_code.specs.Kept.{core_of}
use Rattle.bql_lowering.proofs.CallFacts.{as_asked, below_call, below_two, call_listed, is_list}
use Rattle.bql_lowering.proofs.CallFacts.{many_arguments, no_list, one_argument}
use Rattle.bql_lowering.specs.Kept.{gathered_of}
use Rattle.bql_lowering.specs.Listed.{HasShape}
use Rattle.bql_lowering.specs.Lowered as rule
use Rattle.bql_parser.specs.Small.{IsSmallTree}
use Rattle.bql_tree.specs.Tree.{tree_of, trees_of}
use Rattle.bql_tree.specs.declared.tree.Expr.TheFolds.{the_lemmas}
use Rattle.bql_tree.specs.declared.tree.Expr.TheViews.{sized-Call}
use Rattle.bql_types.proofs.CauseFacts.{is_call}
use Rattle.bql_types.specs.Shaped.{is_null}
use Rattle.bql_lowering.proofs.lowering.+lower.Goals as goal

pub lower-lower_call-requires : goal.lower-lower_call-requires
lower-lower_call-requires t c =
    let m = c.in-Call in
    let is = is_call c.args.e.now m.field-0 m.function m.arguments c.deref-in-Call.result.now m.is
    c.deref-in-Call.ensures.value in
    let small = subst IsSmallTree is c.requires.small in
    let shaped = subst (HasShape c.args.scope.now.bounds) is c.requires.shaped in (
      search (rules, the_lemmas, sized-Call),
      (c.requires.bounds, (c.requires.few, (small, shaped))),
    )

pub lower-returns-in-Call : goal.lower-returns-in-Call
lower-returns-in-Call t c =
    let m = c.in-Call in
    let xs = c.deref-in-Call.result.now in
    subst (λ z. IfOk c.lower_call.result (λ r. core_of r ≡ z))
    (below_call c.args.scope.now.bounds (gathered_of c.args.scope.now) (tree_of c.args.e.now)
    m.field-0 m.function (trees_of xs)
    (is_call c.args.e.now m.field-0 m.function m.arguments xs m.is c.deref-in-Call.ensures.value)
    c.in_default.ensures c.in_default-position.ensures)
    c.lower_call.ensures

pub lower-returns-in_ok-y-in-Two-2 : goal.lower-returns-in_ok-y-in-Two-2
lower-returns-in_ok-y-in-Two-2 t c =
    let m = c.in-Two in
    let b = c.args.scope.now.bounds in
    let g = gathered_of c.args.scope.now in
    let x = m.x.value in
    let y = m.y.value in
    let p = c.in_ok-p-in-Two.p in
    let q = c.in_ok-q-in-Two.q in
    let left = c.in_ok-x-in-Two-2.ensures
    ∙ ap (λ z. rule.lowered b g (tree_of z)) c.deref-in-Two-5.ensures in
    let right = c.in_ok-y-in-Two-2.ensures
    ∙ ap (λ z. rule.lowered b g (tree_of z)) c.deref-in-Two-6.ensures in
    let asked =
    as_asked m.op p q (rule.places_of b g (tree_of x)) (rule.places_of b g (tree_of y))
    (rule.lowered b g (tree_of x)) (rule.lowered b g (tree_of y))
    (λ e. c.in_ok-p-in-Two.ensures e
    ∙ ap (λ z. rule.places_of b g (tree_of z)) c.deref-in-Two-3.ensures)
    (λ e. c.in_ok-q-in-Two.ensures e
    ∙ ap (λ z. rule.places_of b g (tree_of z)) c.deref-in-Two-4.ensures) in
    let whole =
    below_two b g (tree_of c.args.e.now) m.field-0 m.op (tree_of x) (tree_of y) (ap tree_of m.is)
    c.in_default.ensures c.in_default-position.ensures
    (ap (λ z. is_null (tree_of z)) (sym c.deref-in-Two.ensures) ∙ sym c.is_null.ensures
    ∙ c.if-is_null.false)
    (ap (λ z. is_null (tree_of z)) (sym c.deref-in-Two-2.ensures) ∙ sym c.is_null-in-Two.ensures
    ∙ c.if-is_null-2.false) in
    subst (λ z. IfOk c.of_binary.result (λ r. core_of r ≡ z))
    (ap₂ (λ u v. rule.of_binary m.op p q u v) left right ∙ asked ∙ whole) c.of_binary.ensures

pub lower_call-in_list-requires : goal.lower_call-in_list-requires
lower_call-in_list-requires t c =
    call_listed c.args.scope.now.bounds c.args.function c.args.arguments.now
    c.index-arguments-0.result c.in_ok-places.places
    (is_list c.args.function (sym c.eq.ensures ∙ c.if-eq.true)) c.index-arguments-0.is
    c.in_ok-places.ensures c.requires.small c.requires.shaped

pub lower_call-returns-then-arguments-gt1 : goal.lower_call-returns-then-arguments-gt1
lower_call-returns-then-arguments-gt1 t c =
    c.nothing-then-arguments-gt1.ensures
    ∙ many_arguments c.args.scope.now.bounds (gathered_of c.args.scope.now) c.args.function
    c.args.arguments.now (no_list c.args.function (sym c.eq.ensures ∙ c.if-eq.false))
    c.if-arguments-gt1.true

pub lower_call-returns : goal.lower_call-returns
lower_call-returns t c =
    subst (λ z. IfOk c.of_function.result (λ r. core_of r ≡ z))
    (ap (rule.of_function c.args.function) c.in_ok-x-2.ensures
    ∙ one_argument c.args.scope.now.bounds (gathered_of c.args.scope.now) c.args.function
    c.args.arguments.now c.index-arguments-0-2.result
    (no_list c.args.function (sym c.eq.ensures ∙ c.if-eq.false)) c.if-arguments-gt1.false
    c.index-arguments-0-2.is c.requires.shaped)
    c.of_function.ensures
