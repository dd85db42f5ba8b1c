use Rattle.std.proofs.Common.{drop, length, take}
use Rattle.query_answer.specs.Rows.{row_at}
use Rattle.final_rows.proofs.ShownFacts.{AreOnce}
use Rattle.final_rows.proofs.showing.shown_once.Given as goal

abbrev pub invariant-loop-number : goal.invariant-loop-number
invariant-loop-number l =
    AreOnce (λ n. take l.width (row_at l.rows n)) (length l.rows) l.numbers
    (drop l.number-index l.numbers) l.once.items l.seen.keys
