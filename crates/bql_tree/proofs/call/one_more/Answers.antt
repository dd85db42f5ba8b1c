use Rattle.std.proofs.Common.{◌++◌, ◌∷◌, [], ap, sym, ◌∙◌}
use Rattle.bql_tree.specs.Part.{part_of}
use Rattle.bql_tree.proofs.CallFacts.{pushed_is}
use Rattle.bql_tree.proofs.call.one_more.Goals as goal

pub returns-in_ok-push-in-Ok : goal.returns-in_ok-push-in-Ok
returns-in_ok-push-in-Ok c =
    pushed_is c.args.found c.not_null.result c.in-Ok.exprs c.in-Ok.next c.push.new.self.items
    (part_of c.args.part) (sym c.both.ensures ∙ c.in-Ok.is) c.not_null.ensures
    (c.in_ok-push-in-Ok.ensures.items
    ∙ ap (λ e. c.in-Ok.exprs.items ++ e ∷ []) c.into_inner.ensures)
