-- `verify FILE`: whether a query file is accepted, and how long and how deep its program is.
use Rattle.std.specs.Prelude.{◌≡◌, ℕ, List, ◌++◌, codes, length, Ok}
use Rattle.std.specs.Fmt.{decimal}
use Rattle.clap.specs.Walk.{Text}
use Rattle.query_code.specs.declared.program.Parts.{Parts}
use Rattle.requests.specs.Names as requests
use Rattle.bq.specs.Command.{Command}
use Rattle.bq.specs.Due.{End, at_once}
use Rattle.bq.specs.Files.{about_file}
use Rattle.bq.specs.Verified.{about_program}
use Rattle.bq.specs.declared.given.Given.TheVariants.{Told}
use Rattle.endings.specs.declared.verdict.Verdict.TheVariants.{Fine}

-- the depth of the stack, and the lengths of the sections
abbrev pub line_by : ℕ → ℕ → ℕ → ℕ → List ℕ
line_by depth filter row last =
    codes "accepted depth " ++ decimal depth ++ codes " filter " ++ decimal filter
    ++ codes " row " ++ decimal row ++ codes " last " ++ decimal last ++ codes "\n"

abbrev pub line_of : Parts → ℕ → List ℕ
line_of p depth =
    line_by depth (length p.code.filter) (length p.code.row) (length p.code.last)

abbrev pub Verifies : Parts → ℕ → End → Type 0
Verifies p depth end = end ≡ Ok (Told Fine (line_of p depth))

abbrev pub verify : Command Text
verify = record {
  words = requests.verify;
  due = about_file (about_program (λ p depth. at_once (Verifies p depth)));
}
