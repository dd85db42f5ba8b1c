use Rattle.std.proofs.Common.{◌≡◌, take}
use Rattle.query_machine.proofs.advancing.headers_of.Given as goal

abbrev pub invariant-loop-target : goal.invariant-loop-target
invariant-loop-target l = l.headers.items ≡ take l.target-index l.targets
