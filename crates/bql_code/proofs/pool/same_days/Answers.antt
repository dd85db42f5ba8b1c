use Rattle.std.proofs.Common.{sym, ◌∙◌}
use Rattle.bql_code.proofs.PairFacts.{days_apart}
use Rattle.bql_code.proofs.pool.same_days.Goals as goal

pub returns-then-not-same_day : goal.returns-then-not-same_day
returns-then-not-same_day c =
    let l = c.loop-i in
    days_apart c.args.a.now c.args.b.now l.i c.index-a-i.result c.index-b-i.result
    c.loop-i-test.true c.if-a-b.false c.index-a-i.is c.index-b-i.is
    (sym c.same_day.ensures ∙ c.if-not-same_day.true) l.invariant
