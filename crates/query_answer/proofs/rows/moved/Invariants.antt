use Rattle.std.proofs.Common.{drop}
use Rattle.query_answer.proofs.MovedFacts.{ArePicking}
use Rattle.query_answer.specs.Spans.{rows_in}
use Rattle.query_answer.proofs.rows.moved.Given as goal

abbrev pub invariant-loop-lies : goal.invariant-loop-lies
invariant-loop-lies l =
    ArePicking (rows_in l.fn.values.items l.fn.spans.items) l.numbers l.left.items l.values.items
    l.spans.items l.moved.items
    (drop l.lies-index l.numbers)
