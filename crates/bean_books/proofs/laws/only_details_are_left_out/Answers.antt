use Rattle.bean_book.proofs.LeftOutFacts.{whole_book}
use Rattle.bean_books.proofs.laws.only_details_are_left_out.Goals as goal

pub returns : goal.returns
returns c = λ details texts bare book.
    let l = book.0 in
    let whole = whole_book details l bare book.2 in
    (whole.0, (l, book.1, whole.1), whole.2)
