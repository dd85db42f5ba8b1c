use Rattle.std.proofs.Common.{◌≡◌}
use Rattle.bean_pad.specs.Table.{HasNoOthers}
use Rattle.bean_pad.proofs.AddingFacts.{IsAdding}
use Rattle.bean_pad.proofs.table.Table.add_up.Given as goal

-- what is left to add completes what was added
abbrev pub invariant-loop-number : goal.invariant-loop-number
invariant-loop-number l = record {
  same : l.self-inside.tree ≡ l.initial.self-inside.tree;
  adding : IsAdding l.self-inside.tree l.initial.self-inside.counts.by_number.entries
      l.self-inside.counts.by_number.entries l.account l.currency l.count l.number;
  others : HasNoOthers l.self-inside.tree l.self-inside.counts.by_number.entries;
}

abbrev pub decreases-loop-number : goal.decreases-loop-number
decreases-loop-number l = l.number
