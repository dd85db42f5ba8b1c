use Rattle.bean_directives.proofs.UndatedFacts.{reads_option}
use Rattle.bean_directives.proofs.undated.option.Goals as goal

pub returns : goal.returns
returns c =
    rw c.option_of.ensures
    (reads_option _ _ _ _ _ c.in_ok-name.ensures.read c.in_ok-value.ensures.read)
