use Rattle.std.proofs.Common.{ℕ, length}
use Rattle.query_code.proofs.TextListSearch.{IsLeft}
use Rattle.query_code.specs.TextForm.{AreTexts}
use Rattle.query_code.proofs.text_list.is_written_in.Given as goal

abbrev pub invariant-loop-written : goal.invariant-loop-written
invariant-loop-written l = (n : ℕ) → AreTexts n l.fn.bytes → IsLeft l.sought n l.fn.bytes l.bytes

abbrev pub decreases-loop-written : goal.decreases-loop-written
decreases-loop-written l = length l.bytes
