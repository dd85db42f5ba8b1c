use Rattle.bql_code.proofs.PoolFacts.{collected}
use Rattle.bql_code.proofs.pool.Pool.collect_all.Goals as goal

pub loop-core-preserved : goal.loop-core-preserved
loop-core-preserved c =
    let l = c.loop-core in
    collected l.self c.collect.new.self c.args.cores.now l.core-index c.core-item.result _
    c.loop-core-test.true c.core-item.is c.in_ok-collect.ensures l.invariant
