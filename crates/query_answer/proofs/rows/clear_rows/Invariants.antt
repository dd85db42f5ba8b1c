use Rattle.std.proofs.Common.{◌≡◌, ◌-◌, ◌≤◌, length}
use Rattle.query_answer.specs.Spans.{rows_in}
use Rattle.query_answer.proofs.GivenUpFacts.{nulls_from}
use Rattle.query_answer.proofs.rows.clear_rows.Given as goal

-- the rows in front of the number are given up
abbrev pub invariant-loop-number : goal.invariant-loop-number
invariant-loop-number l = record {
  count : length l.values ≡ length l.initial.values;
  from : l.first ≤ l.number;
  few : l.number - l.first ≤ l.end - l.first;
  rows : rows_in l.values l.spans
      ≡ nulls_from l.first (l.number - l.first) (rows_in l.initial.values l.spans);
}
