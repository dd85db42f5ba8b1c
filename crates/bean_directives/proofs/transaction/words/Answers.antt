use Rattle.bean_directives.proofs.HeadFacts.{reads_words}
use Rattle.bean_directives.proofs.transaction.words.Goals as goal

pub returns : goal.returns
returns c =
    rw c.words_of.ensures
    (reads_words _ _ _ _ _ c.text_if_due-first.ensures c.text_if_due-second.ensures)
