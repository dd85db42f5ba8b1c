use Rattle.std.proofs.Common.{◌≡◌, ◌++◌, drop}
use Rattle.bql_code.specs.Kept.{constants_of}
use Rattle.bql_code.proofs.pool.constants.Given as goal

-- what is there so far, with those that are left, is what is there in all
abbrev pub invariant-loop-entry : goal.invariant-loop-entry
invariant-loop-entry l =
    l.list ++ constants_of (drop l.entry-index l.entries) ≡ constants_of l.entries
