use Rattle.std.proofs.Common.{arith}
use Rattle.bean_grammar.proofs.MarkFacts.{first_marks, mark_pushed, marks_read}
use Rattle.bean_grammar.proofs.mark.marks.Goals as goal

pub loop-found-init : goal.loop-found-init
loop-found-init c =
    record { no_longer = omega arith; read = first_marks _ _ c.new-marks.ensures.items }

pub loop-found-preserved : goal.loop-found-preserved
loop-found-preserved c = record {
  no_longer = omega (arith, c.in-Some.ensures.shorter, c.loop-found.invariant.no_longer);
  read = mark_pushed _ _ _ _ _ _ c.in_ok-push.ensures.items c.loop-found.invariant.read
      c.in-Some.ensures.front;
}

pub returns-clause-read : goal.returns-clause-read
returns-clause-read c =
    rw c.new.ensures (marks_read _ _ _ c.loop-found.invariant.read c.in_default.ensures.front)
