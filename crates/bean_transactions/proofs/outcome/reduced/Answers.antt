use Rattle.std.proofs.Common.{subst}
use Rattle.bean_reductions.specs.Candidate.{candidates}
use Rattle.bean_base.specs.Counts.{at_8}
use Rattle.bean_transactions.specs.Lined.{IsReduced, IsReducedBy}
use Rattle.bean_transactions.specs.Outcome.{StopsWith}
use Rattle.bean_transactions.specs.Stock.{rest_of}
use Rattle.bean_transactions.proofs.OutcomeFacts.{stops_more}
use Rattle.bean_transactions.proofs.outcome.reduced.Goals as goal

pub returns-in-Err : goal.returns-in-Err
returns-in-Err c =
    let m = c.args.stock.method in
    let rest = rest_of c.args.stock in
    let account = c.args.posting.now.account in
    let units = c.args.units.now in
    let i = c.args.index in
    let n = c.line.result in
    let s = c.selector_of-selector.result in
    let cs = candidates s (at_8 units.number) rest in
    subst
    (λ n. StopsWith (IsReducedBy m rest c.args.parts.now account units i n) c.refusal_of.result)
    c.line.ensures
    (stops_more (IsReduced m cs account units i n)
    (IsReducedBy m rest c.args.parts.now account units i n)
    c.refusal_of.result (λ r h. (s, c.selector_of-selector.ensures, h))
    (c.refusal_of.ensures m cs account units i c.in-Err.ensures))
