use Rattle.bean_directives.proofs.UndatedFacts.{reads_plugin}
use Rattle.bean_directives.proofs.undated.plugin.Goals as goal

pub returns : goal.returns
returns c = reads_plugin _ _ _ _ _ c.in_ok-rest.ensures.read c.text_if_due.ensures
