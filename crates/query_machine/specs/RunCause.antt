-- What users are told of a program that isn't run over a ledger.
use Rattle.std.specs.Prelude.{ℕ, List, codes, Option, None}
use Rattle.query_machine.specs.declared.cause.RunCause.{RunCause}
use Rattle.query_machine.specs.declared.cause.RunCause.TheVariants.{OutsideBounds}

abbrev pub code_of : RunCause → List ℕ
code_of OutsideBounds = codes "M1"

-- it is told of a whole ledger
abbrev pub place_of : RunCause → Option ℕ
place_of cause = None
