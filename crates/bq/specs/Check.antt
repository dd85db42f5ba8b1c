-- `check LEDGER`: the lines of the faults of a ledger, and whether its books are fine.
use Rattle.std.specs.Prelude.{◌≡◌, Ok}
use Rattle.bean_book.specs.Book.{Book}
use Rattle.bean_load.specs.Texts.{Texts}
use Rattle.clap.specs.Walk.{Text}
use Rattle.fault_printer.specs.Lines.{lines_of}
use Rattle.requests.specs.Names as requests
use Rattle.bq.specs.Command.{Command}
use Rattle.bq.specs.Due.{End}
use Rattle.bq.specs.Ledgers.{about_book, about_ledger}
use Rattle.endings.specs.Verdict.{verdict_of}
use Rattle.bq.specs.declared.given.Given.TheVariants.{Told}

-- the lines of the faults in the book of texts, and what they say
abbrev pub Checked : Texts → Book → End → Type 0
Checked texts b end = end ≡ Ok (Told (verdict_of b.faults) (lines_of texts.files b.faults))

-- those of the faults that are found where the texts are booked
abbrev pub Checks : Texts → End → Type 0
Checks texts end = about_book (Checked texts) texts end

abbrev pub check : Command Text
check = record {
  words = requests.check;
  due = about_ledger Checks;
}
