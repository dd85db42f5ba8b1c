use Rattle.query_answer.proofs.PlaceFacts.{PartSwapped}
use Rattle.query_answer.proofs.places.swap_rows.Given as goal

abbrev pub invariant-loop-i : goal.invariant-loop-i
invariant-loop-i l = PartSwapped l.s.start l.t.start l.i l.initial.values l.values
