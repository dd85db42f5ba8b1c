use Rattle.std.proofs.Common.{◌++◌, ◌∷◌, [], ap, ◌∙◌}
use Rattle.bql_tree.specs.Part.{list_of_trees}
use Rattle.bql_tree.specs.Tree.{call_of, node, tree_of, all_trees}
use Rattle.bql_tree.proofs.CallFacts.{tree_of_call}
use Rattle.bql_parser.proofs.standing.applied.Goals as goal

pub returns : goal.returns
returns c =
    ap tree_of c.in_ok-new.ensures.ok
    ∙ tree_of_call 0 c.args.function c.push.new.self
    ∙ ap (λ xs. node 0 (call_of c.args.function) (all_trees (list_of_trees xs)))
    (c.in_ok-push.ensures.items
    ∙ ap (λ z. z ++ c.into_inner.result ∷ []) c.new-arguments.ensures.items
    ∙ ap (λ e. e ∷ []) c.into_inner.ensures)
