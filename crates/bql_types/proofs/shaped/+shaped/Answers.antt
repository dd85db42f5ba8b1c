use Rattle.std.proofs.Common.{refl, sym, ap, ◌∙◌, false}
use Rattle.bql_tree.specs.Tree.{one_of, two_of, node, trees, no_trees, tree_of, trees_of}
use Rattle.bql_types.specs.Seen.{concluded, list_of, one_more}
use Rattle.bql_types.specs.Shaped.{shape_causes, all_shape_causes}
use Rattle.bql_types.proofs.CauseFacts.{is_call, one_less}
use Rattle.bql_types.proofs.ShapeFacts.{one_seen, two_seen, call_seen, one_shape_less}
use Rattle.bql_types.proofs.shaped.+shaped.Goals as goal

pub look-returns-in_ok-x-in-One : goal.look-returns-in_ok-x-in-One
look-returns-in_ok-x-in-One t c =
    let m = c.in-One in
    let x = c.deref.result.now in
    let s = c.in_ok-x-in-One.x in
    c.concluded-in-One.ensures
    ∙ ap (λ z. concluded m.place z s.found) c.before-in-One.ensures
    ∙ one_seen c.args.bounds.now (tree_of c.args.e.now) (tree_of x) m.place m.op c.args.found s
    (ap tree_of m.is
    ∙ ap (λ z. node m.place (one_of m.op) (trees (tree_of z) no_trees)) (sym c.deref.ensures))
    c.in_ok-x-in-One.ensures

pub look-returns-in_ok-y-in-Two : goal.look-returns-in_ok-y-in-Two
look-returns-in_ok-y-in-Two t c =
    let m = c.in-Two in
    let x = c.deref-in-Two.result.now in
    let y = c.deref-in-Two-2.result.now in
    c.concluded-in-Two.ensures
    ∙ ap (λ z. concluded m.place z c.in_ok-y-in-Two.y.found) c.between.ensures
    ∙ two_seen c.args.bounds.now (tree_of c.args.e.now) (tree_of x) (tree_of y) m.place m.op
    c.args.found c.in_ok-x-in-Two.x c.in_ok-y-in-Two.y
    (ap tree_of m.is
    ∙ ap (λ z. node m.place (two_of m.op) (trees (tree_of z) (trees (tree_of m.y.value) no_trees)))
    (sym c.deref-in-Two.ensures)
    ∙ ap (λ z. node m.place (two_of m.op) (trees (tree_of x) (trees (tree_of z) no_trees)))
    (sym c.deref-in-Two-2.ensures))
    c.in_ok-x-in-Two.ensures c.in_ok-y-in-Two.ensures

pub look-returns-in_ok-all-in-Call : goal.look-returns-in_ok-all-in-Call
look-returns-in_ok-all-in-Call t c =
    let m = c.in-Call in
    let xs = c.deref-in-Call.result.now in
    let all = c.in_ok-all-in-Call.all in
    c.concluded-in-Call.ensures
    ∙ call_seen c.args.bounds.now (tree_of c.args.e.now) m.place m.function (trees_of xs)
    c.args.found all c.called.result
    (is_call c.args.e.now m.place m.function m.arguments xs m.is c.deref-in-Call.ensures.value)
    c.in_ok-all-in-Call.ensures c.called.ensures

pub look_at_all-loop-e-preserved : goal.look_at_all-loop-e-preserved
look_at_all-loop-e-preserved t c =
    let b = c.args.bounds.now in
    let l = c.loop-e in
    let e = c.in_ok-e.e in
    record {
      shapes = one_shape_less b c.args.es.now l.e-index c.e-item.result (list_of l.shapes)
          (list_of c.in_ok-shapes.shapes) _ c.loop-e-test.true c.e-item.is
          (c.in_ok-shapes.ensures
          ∙ ap (λ z. one_more (list_of l.shapes) z.shape) c.in_ok-e.ensures)
          l.invariant.shapes;
      found = one_less (shape_causes b) (all_shape_causes b false) (λ t ts. refl) c.args.es.now
          l.e-index c.e-item.result l.found e.found _ c.loop-e-test.true c.e-item.is
          (ap (λ z. z.found) c.in_ok-e.ensures) l.invariant.found;
    }
