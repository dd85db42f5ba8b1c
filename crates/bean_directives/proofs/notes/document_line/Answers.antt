use Rattle.bean_directives.proofs.HeadFacts.{reads_document}
use Rattle.bean_directives.proofs.notes.document_line.Goals as goal

pub returns : goal.returns
returns c =
    reads_document _ _ _ _ _ _ _ c.in-Some.ensures.front c.in-Some-text.ensures.read
    c.in_ok-marks.ensures.read
