use Rattle.std.proofs.Common.{rules}
use Rattle.std.proofs.lemmas.Result.{IfOk-weaker}
use Rattle.bean_load.specs.Turns.{AreCodes}
use Rattle.bean_load.proofs.TurnFacts.{arranged_if}
use Rattle.bean_load.proofs.order.order_by_codes.Goals as goal

pub returns-clause-in_order : goal.returns-clause-in_order
returns-clause-in_order c =
    let are : AreCodes c.args.directives.now c.args.codes.codes.items = search rules in
    IfOk-weaker c.arrange.result _ _ (arranged_if _ _ c.args.codes.codes.items are)
    c.arrange.ensures.arranged
