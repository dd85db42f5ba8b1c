use Rattle.std.proofs.Common.{arith}
use Rattle.bean_transactions.proofs.CompletedFacts.{one_more_fill}
use Rattle.bean_transactions.proofs.completed.push_filled.Goals as goal

pub loop-fill-preserved : goal.loop-fill-preserved
loop-fill-preserved c =
    one_more_fill c.args.fills.now c.loop-fill.fill-index c.fill-item.result c.args.line
    c.args.account.now c.args.written c.args.posted.now.items c.loop-fill.posted.items
    c.push_fill.new.posted.items (omega arith) c.fill-item.is c.loop-fill.invariant
    c.in_ok-push_fill.ensures
