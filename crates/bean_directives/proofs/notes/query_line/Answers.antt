use Rattle.bean_directives.proofs.HeadFacts.{reads_query}
use Rattle.bean_directives.proofs.notes.query_line.Goals as goal

pub returns : goal.returns
returns c = reads_query _ _ _ _ _ c.in_ok-name.ensures.read c.in_ok-query.ensures.read
