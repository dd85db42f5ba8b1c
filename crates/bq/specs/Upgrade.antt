-- `upgrade OLD NEW`: the file of a program, brought to the second version.
use Rattle.std.specs.Prelude.{◌≡◌, ℕ, List, Ok}
use Rattle.clap.specs.Walk.{Text}
use Rattle.query_code.specs.QueryFile.{IsFile}
use Rattle.query_code.specs.Upgrade.{upgraded}
use Rattle.query_code.specs.declared.program.Parts.{Parts}
use Rattle.requests.specs.Names as requests
use Rattle.bq.specs.Command.{Command}
use Rattle.bq.specs.Due.{End, at_once}
use Rattle.bq.specs.Files.{about_file}
use Rattle.bq.specs.Verified.{about_program}
use Rattle.bq.specs.declared.given.Given.TheVariants.{Kept}

-- the file of the upgraded program, which is to be kept under the new name
abbrev pub Upgrades : Text → Parts → End → Type 0
Upgrades new p end = (bytes : List ℕ) × IsFile bytes (upgraded p) × (end ≡ Ok (Kept new bytes))

abbrev pub upgrade : Command (Text × Text)
upgrade = record {
  words = requests.upgrade;
  due = λ names. about_file (about_program (λ p depth. at_once (Upgrades names.1 p))) names.0;
}
