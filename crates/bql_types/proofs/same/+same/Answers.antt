use Rattle.std.proofs.Common.{sym, ◌∙◌}
use Rattle.bql_tree.specs.Tree.{tree_of, trees_of}
use Rattle.bql_types.proofs.CauseFacts.{is_call}
use Rattle.bql_types.proofs.SameFacts.{calls_same, unlike}
use Rattle.bql_types.proofs.same.+same.Goals as goal

pub same-returns-then-eq-2 : goal.same-returns-then-eq-2
same-returns-then-eq-2 t c =
    let m = c.in-Call-Call in
    let xs = c.deref-then-eq-2-2.result.now in
    let ys = c.deref-then-eq-2-3.result.now in
    calls_same c.same_all.result (tree_of c.args.a.now) (tree_of c.args.b.now) m.field-0-0
    m.field-0-1 m.f m.g (trees_of xs) (trees_of ys)
    (is_call c.args.a.now m.field-0-0 m.f m.xs xs m.is-0 c.deref-then-eq-2-2.ensures.value)
    (is_call c.args.b.now m.field-0-1 m.g m.ys ys m.is-1 c.deref-then-eq-2-3.ensures.value)
    (sym c.eq-in-Call-Call.ensures ∙ c.if-eq-2.true) c.same_all.ensures

pub same_all-returns-then-xs-ys : goal.same_all-returns-then-xs-ys
same_all-returns-then-xs-ys t c = sym (unlike c.args.xs.now c.args.ys.now c.if-xs-ys.true)
