use Rattle.std.proofs.Common.{◌≡◌, ◌+◌, drop}
use Rattle.bql_code.specs.Code.{all_size}
use Rattle.bql_code.specs.Kept.{cores_of}
use Rattle.bql_code.proofs.room.room_behind_all.Given as goal

-- the room that is left lacks what was before
abbrev pub invariant-loop-core : goal.invariant-loop-core
invariant-loop-core l =
    l.left + all_size (cores_of l.cores)
    ≡ l.room + all_size (cores_of (drop l.core-index l.cores))
