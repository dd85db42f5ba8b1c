use Rattle.std.proofs.Common.{map, take}
use Rattle.bean_reductions.specs.Take.{take_counts}
use Rattle.bean_transactions.specs.Lined.{AreTakeLines}
use Rattle.bean_transactions.proofs.outcome.take_lines.Given as goal

abbrev pub invariant-loop-take : goal.invariant-loop-take
invariant-loop-take l =
    AreTakeLines l.account l.currency l.index (map take_counts (take l.take-index l.takes))
    l.lines.items
