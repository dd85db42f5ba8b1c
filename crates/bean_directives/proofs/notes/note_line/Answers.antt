use Rattle.bean_directives.proofs.HeadFacts.{reads_note}
use Rattle.bean_directives.proofs.notes.note_line.Goals as goal

pub returns : goal.returns
returns c = reads_note _ _ _ _ _ c.in_ok-account.ensures.front c.in_ok-text.ensures.read
