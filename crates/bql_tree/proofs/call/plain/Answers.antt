use Rattle.std.proofs.Common.{sym, ap, ◌∙◌, Ok}
use Rattle.bql_tree.specs.Call as rule
use Rattle.bql_tree.specs.Part.{trees_found}
use Rattle.bql_tree.specs.Tree.{tree_of}
use Rattle.bql_tree.proofs.CallFacts.{tree_of_call}
use Rattle.bql_tree.proofs.call.plain.Goals as goal

pub returns-in_ok-new-in-Ok : goal.returns-in_ok-new-in-Ok
returns-in_ok-new-in-Ok c =
    ap (λ e. Ok (tree_of e)) c.in_ok-new-in-Ok.ensures.ok
    ∙ ap Ok (tree_of_call c.args.start c.args.function c.in-Ok.exprs)
    ∙ ap (rule.call_tree c.args.start c.args.function)
    (ap trees_found (sym c.in-Ok.is) ∙ c.in_ok-exprs.ensures)
