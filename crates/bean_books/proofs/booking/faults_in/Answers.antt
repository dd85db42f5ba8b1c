use Rattle.bean_books.proofs.OneBook.{found_in}
use Rattle.bean_books.proofs.booking.faults_in.Goals as goal

pub returns : goal.returns
returns c =
    found_in c.args.texts.now c.in_ok-loaded.loaded c.in_ok-loaded.ensures
    c.find_faults.result c.find_faults.ensures
