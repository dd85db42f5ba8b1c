use Rattle.std.proofs.Common.{map, take}
use Rattle.query_fates.specs.Fates.{AreFates, verified}
use Rattle.query_fates.proofs.tabulating.fates.Given as goal

abbrev pub invariant-loop-number : goal.invariant-loop-number
invariant-loop-number l =
    AreFates l.ledger (map verified (take l.number l.programs)) l.fates.items
