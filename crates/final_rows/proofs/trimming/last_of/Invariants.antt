use Rattle.std.proofs.Common.{◌≡◌, ◌≤◌, take}
use Rattle.final_rows.specs.Enough.{last_of}
use Rattle.final_rows.proofs.trimming.last_of.Given as goal

abbrev pub invariant-loop-number : goal.invariant-loop-number
invariant-loop-number l = record {
  some : 1 ≤ l.number;
  last : l.last ≡ last_of l.output (take l.number l.rows);
}
