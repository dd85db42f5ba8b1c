use Rattle.std.proofs.Common.{◌≡◌, ◌+◌, ◌++◌, ◌≤◌, drop, length}
use Rattle.limits.specs.declared.counts.TheConstants.{LONGEST_SECTION}
use Rattle.bql_code.specs.Code as rule
use Rattle.bql_code.specs.Kept.{cores_of}
use Rattle.bql_code.proofs.emitting.emit_all.Given as goal

-- what is there so far, with the code of those that are left, is what is there in all, and has room
abbrev pub invariant-loop-core : goal.invariant-loop-core
invariant-loop-core l =
    (length l.code.items + rule.all_size (cores_of (drop l.core-index l.cores)) ≤ LONGEST_SECTION)
    × (l.code.items
    ++ rule.all_code l.pool (length l.code.items) (cores_of (drop l.core-index l.cores))
    ≡ l.initial.code.items
    ++ rule.all_code l.pool (length l.initial.code.items) (cores_of l.cores))
