use Rattle.bean_directives.proofs.HeadFacts.{reads_pad}
use Rattle.bean_directives.proofs.accounts.pad_line.Goals as goal

pub returns : goal.returns
returns c = reads_pad _ _ _ _ _ c.in_ok-account.ensures.front c.in_ok-source.ensures.front
