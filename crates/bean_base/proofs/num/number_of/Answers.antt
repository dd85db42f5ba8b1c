use Rattle.std.proofs.Common.{arith}
use Rattle.bean_base.proofs.OnePassFacts.{without_point, with_point}
use Rattle.bean_base.proofs.num.number_of.Goals as goal

pub returns-then-at-bytes : goal.returns-then-at-bytes
returns-then-at-bytes c =
    let is = c.in_ok-at.ensures in let last = c.if-at-bytes.true in
    without_point c.args.bytes.now c.in_ok-at.at c.in_ok-at.count is.0 is.1 is.2
    (omega arith)

pub returns : goal.returns
returns c =
    let is = c.in_ok-at.ensures in let more = c.in_ok-count.ensures in
    with_point c.args.bytes.now c.in_ok-at.at c.in_ok-count.count is.0 is.1 more.0
    more.1
