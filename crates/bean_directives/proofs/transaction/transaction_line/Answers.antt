use Rattle.bean_directives.proofs.HeadFacts.{reads_transaction}
use Rattle.bean_directives.proofs.transaction.transaction_line.Goals as goal

pub returns : goal.returns
returns c =
    rw (c.new.ensures, c.in_ok-marks.ensures)
    (reads_transaction _ _ _ _ _ _ c.words-words.ensures c.in_ok-written.ensures.read)
