use Rattle.std.proofs.Common.{◌≡◌, drop}
use Rattle.bql_code.specs.Kept.{cores_of}
use Rattle.bql_code.specs.Pool as rule
use Rattle.bql_code.proofs.pool.Pool.collect_all.Given as goal

-- what is there so far, with what those that are left use, is what is there in all
abbrev pub invariant-loop-core : goal.invariant-loop-core
invariant-loop-core l =
    rule.pooled l.self (rule.all_used (cores_of (drop l.core-index l.cores)))
    ≡ rule.pooled l.initial.self (rule.all_used (cores_of l.cores))
