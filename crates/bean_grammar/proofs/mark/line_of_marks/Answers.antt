use Rattle.bean_grammar.proofs.MarkFacts.{mark_there, some_marks_are, more_than_marks}
use Rattle.bean_grammar.proofs.MarkFacts.{no_mark_begins}
use Rattle.bean_grammar.proofs.mark.line_of_marks.Goals as goal

pub returns-in_default : goal.returns-in_default
returns-in_default c = no_mark_begins _ c.in_default.ensures.front

pub returns-in-Some-next : goal.returns-in-Some-next
returns-in-Some-next c =
    more_than_marks _ _ _ _ _ c.in_ok-marks.ensures.read c.in-Some-next.ensures.front

pub returns : goal.returns
returns c =
    some_marks_are _ _ _ (mark_there _ _ _ c.in-Some.ensures.front) c.in_ok-marks.ensures.read
    c.in-None.ensures.front
