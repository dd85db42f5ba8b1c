use Rattle.std.proofs.Common.{◌≡◌, ◌+◌, drop}
use Rattle.bql_code.specs.Kept.{constants_of}
use Rattle.bql_code.specs.Literals.{constant_of}
use Rattle.bql_code.specs.Pool as rule
use Rattle.bql_code.proofs.pool.index_in.Given as goal

-- the index among those that are left, behind those before
abbrev pub invariant-loop-i : goal.invariant-loop-i
invariant-loop-i l =
    rule.index_in (constants_of (drop l.i l.entries)) (constant_of l.literal) + l.i
    ≡ rule.index_in (constants_of l.entries) (constant_of l.literal)
