use Rattle.bean_directives.proofs.HeadFacts.{reads_event}
use Rattle.bean_directives.proofs.notes.event_line.Goals as goal

pub returns : goal.returns
returns c = reads_event _ _ _ _ _ c.in_ok-name.ensures.read c.in_ok-value.ensures.read
