-- `compile TEXT FILE`: the file of a query's program.
use Rattle.std.specs.Prelude.{◌≡◌, ℕ, List, Ok}
use Rattle.bql_parser.specs.Asked.{Asked}
use Rattle.clap.specs.Walk.{Text}
use Rattle.limits.specs.declared.bounds.Bounds.{Bounds}
use Rattle.query_files.specs.Texts.{IsFileOf}
use Rattle.requests.specs.Compile as requests
use Rattle.requests.specs.Compile.{Words}
use Rattle.bq.specs.Asking.{about_program_of}
use Rattle.bq.specs.Command.{Command}
use Rattle.bq.specs.Due.{End, at_once}
use Rattle.bq.specs.declared.given.Given.TheVariants.{Kept}

-- the file of the query's program, which is to be kept under that name
abbrev pub Compiled : Bounds → Text → Asked → End → Type 0
Compiled b file q end =
    (bytes : List ℕ) × IsFileOf b q bytes × (end ≡ Ok (Kept file bytes))

abbrev pub compile : Command Words
compile = record {
  words = requests.compile;
  due = λ w. about_program_of w.bounds (λ q. at_once (Compiled w.bounds w.file q)) w.text;
}
