use Rattle.std.proofs.Common.{◌≡◌}
use Rattle.bql_parser.specs.View.{targets_of}
use Rattle.bql_grammar.specs.Read.{targets_in}
use Rattle.bql_parser.specs.Settled.{mapped, each_target}
use Rattle.bql_parser.proofs.settling.each_target.Given as goal

abbrev pub invariant-loop-read : goal.invariant-loop-read
invariant-loop-read l = mapped targets_of l.found ≡ each_target (targets_in l.yielded)
