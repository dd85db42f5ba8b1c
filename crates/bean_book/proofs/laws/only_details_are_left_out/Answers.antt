use Rattle.bean_book.proofs.LeftOutFacts.{whole_book}
use Rattle.bean_book.proofs.laws.only_details_are_left_out.Goals as goal

pub returns : goal.returns
returns c = whole_book
