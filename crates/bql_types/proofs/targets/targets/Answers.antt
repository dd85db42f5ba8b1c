use Rattle.std.proofs.Common.{ap, ◌∙◌, ◌++◌, ◌∷◌, [], true}
use Rattle.std.specs.Option.{is_some}
use Rattle.bql_parser.specs.View.{target_of}
use Rattle.bql_tree.specs.Tree.{tree_of}
use Rattle.bql_types.specs.Cause.{told, least_of}
use Rattle.bql_types.specs.Keys.{grouping_of}
use Rattle.bql_types.specs.Named.{seen_of}
use Rattle.bql_types.specs.Shaped.{shape_of}
use Rattle.bql_types.specs.Sought.{misplaced}
use Rattle.bql_types.specs.Typing.{target_causes, shown_causes}
use Rattle.bql_types.proofs.ItemFacts.{one_less, one_seen_less, seen_as}
use Rattle.bql_types.proofs.targets.targets.Goals as goal

pub loop-target-preserved : goal.loop-target-preserved
loop-target-preserved c =
    let l = c.loop-target in
    let b = c.args.bounds.now in
    let g = grouping_of c.args.grouping.now in
    let e = c.in_ok-e.e in
    record {
      seen = one_seen_less (seen_of b) target_of c.args.targets.now l.target-index
          c.target-item.result l.seen.items c.push.new.self.items _ c.loop-target-test.true
          c.target-item.is
          (c.in_ok-push.ensures.items
          ∙ ap (λ z. l.seen.items ++ seen_as z c.in_ok-has_aggregate.field-0 ∷ [])
          (ap (λ z. z.shape) c.in_ok-e.ensures ∙ ap (λ z. shape_of b (tree_of z)) c.deref.ensures)
          ∙ ap (λ z. l.seen.items
          ++ seen_as (shape_of b (target_of c.target-item.result).tree) z ∷ [])
          (c.in_ok-has_aggregate.ensures
          ∙ ap (λ z. is_some (least_of (misplaced b true (tree_of z))))
          c.deref-in-loop-target.ensures))
          l.invariant.seen;
      found = one_less (target_causes b g) target_of c.args.targets.now l.target-index
          c.target-item.result l.found e.found _ c.loop-target-test.true c.target-item.is
          (ap (λ z. z.found) c.in_ok-e.ensures
          ∙ ap (λ z. told l.found (shown_causes b g (tree_of z))) c.deref.ensures)
          l.invariant.found;
    }
