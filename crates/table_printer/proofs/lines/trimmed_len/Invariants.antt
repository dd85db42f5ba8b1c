use Rattle.std.proofs.Common.{◌≡◌, ◌≤◌, length, take}
use Rattle.table_printer.specs.Layout.{trimmed}
use Rattle.table_printer.proofs.lines.trimmed_len.Given as goal

abbrev pub invariant-loop-n : goal.invariant-loop-n
invariant-loop-n l = (l.n ≤ length l.bytes) × (trimmed (take l.n l.bytes) ≡ trimmed l.bytes)

abbrev pub decreases-loop-n : goal.decreases-loop-n
decreases-loop-n l = l.n
