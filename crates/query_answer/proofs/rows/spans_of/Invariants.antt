use Rattle.std.proofs.Common.{◌≡◌, ◌++◌, length, map}
use Rattle.query_answer.specs.Rows.{ArePicked}
use Rattle.query_answer.specs.Spans.{span_at}
use Rattle.query_answer.proofs.rows.spans_of.Given as goal

abbrev pub invariant-loop-rest : goal.invariant-loop-rest
invariant-loop-rest l = record {
  still : ArePicked (length l.spans) l.rest;
  is : map (span_at l.spans) l.numbers ≡ l.found.items ++ map (span_at l.spans) l.rest;
}

abbrev pub decreases-loop-rest : goal.decreases-loop-rest
decreases-loop-rest l = length l.rest
