use Rattle.bean_transactions.proofs.FilledFacts.{cut_is}
use Rattle.bean_transactions.proofs.completed.cut_behind.Goals as goal

pub returns : goal.returns
returns c =
    cut_is c.args.line c.reach.result c.args.fills.now c.split_at.result.0.now
    c.split_at.result.1.now c.reach.ensures.len c.split_at.ensures.front c.split_at.ensures.back
    c.requires
