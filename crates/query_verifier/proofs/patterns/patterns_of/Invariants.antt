use Rattle.std.proofs.Common.{◌≡◌, map, take}
use Rattle.plain_machine.specs.Pool.{pattern_in}
use Rattle.query_verifier.proofs.patterns.patterns_of.Given as goal

abbrev pub invariant-loop-number : goal.invariant-loop-number
invariant-loop-number l = l.patterns ≡ map pattern_in (take l.number l.pool)
