-- `run FILE LEDGER`: the table of what a query file answers over a ledger.
use Rattle.std.specs.Prelude.{ℕ, List}
use Rattle.clap.specs.Walk.{Text}
use Rattle.requests.specs.Names as requests
use Rattle.bq.specs.Command.{Command}
use Rattle.bq.specs.Due.{Due}
use Rattle.bq.specs.Files.{about_file}
use Rattle.bq.specs.Ledgers.{about_book, about_ledger}
use Rattle.bq.specs.Ran.{Ran}
use Rattle.bq.specs.Verified.{about_program}

-- what is due of the bytes of the file
abbrev pub of_bytes : Text → List ℕ → Due
of_bytes ledger = about_program (λ p depth. about_ledger (about_book (Ran p depth)) ledger)

abbrev pub run : Command (Text × Text)
run = record {
  words = requests.run;
  due = λ names. about_file (of_bytes names.1) names.0;
}
