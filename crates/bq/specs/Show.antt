-- `show FILE`: the listing of a query file.
use Rattle.std.specs.Prelude.{◌≡◌, ℕ, List, Result, Ok, Err}
use Rattle.clap.specs.Walk.{Text}
use Rattle.query_code.specs.Listing.{listing}
use Rattle.query_code.specs.QueryFile.{decoded}
use Rattle.query_code.specs.declared.cause.FileCause.{FileCause}
use Rattle.query_code.specs.declared.program.Parts.{Parts}
use Rattle.query_verifier.specs.declared.cause.VerifierCause.TheVariants as verifier
use Rattle.requests.specs.Names as requests
use Rattle.bq.specs.Command.{Command}
use Rattle.bq.specs.Due.{End, at_once}
use Rattle.bq.specs.Files.{about_file}
use Rattle.bq.specs.declared.given.Given.TheVariants.{Told}
use Rattle.endings.specs.declared.refusal.Cause.TheVariants.{File}
use Rattle.endings.specs.declared.verdict.Verdict.TheVariants.{Fine}

-- the listing of the program, or why the bytes are no query file
abbrev pub listed : Result Parts FileCause → End
listed (Ok program) = Ok (Told Fine (listing program))
listed (Err cause) = Err (File (verifier.File cause))

abbrev pub Shows : List ℕ → End → Type 0
Shows bytes end = end ≡ listed (decoded bytes)

abbrev pub show : Command Text
show = record {
  words = requests.show;
  due = about_file (λ bytes. at_once (Shows bytes));
}
