use Rattle.bean_books.proofs.OneBook.{books_in}
use Rattle.bean_books.proofs.booking.book_of.Goals as goal

pub returns : goal.returns
returns c =
    books_in c.args.details c.args.texts.now c.in_ok-loaded.loaded c.in_ok-loaded.ensures
    c.book.result c.book.ensures
