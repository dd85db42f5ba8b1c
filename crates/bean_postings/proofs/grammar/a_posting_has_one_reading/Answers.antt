use Rattle.bean_postings.proofs.PostingFacts.{one_posting}
use Rattle.bean_postings.proofs.grammar.a_posting_has_one_reading.Goals as goal

pub returns : goal.returns
returns c = one_posting
