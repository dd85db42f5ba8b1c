use Rattle.std.proofs.Common.{◌≡◌, ◌-◌, ◌≤◌, nat_le, drop}
use Rattle.bql_code.specs.Code.{all_depth}
use Rattle.bql_code.specs.Kept.{cores_of}
use Rattle.bql_code.proofs.room.are_within.Given as goal

-- those that are left stand on as many as the room lacks
abbrev pub invariant-loop-core : goal.invariant-loop-core
invariant-loop-core l =
    (l.room ≤ l.most)
    × (nat_le (all_depth (l.most - l.room) (cores_of (drop l.core-index l.cores))) l.most
    ≡ nat_le (all_depth 0 (cores_of l.cores)) l.most)
