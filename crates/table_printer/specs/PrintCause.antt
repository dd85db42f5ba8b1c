-- What users are told of a table that isn't written.
use Rattle.std.specs.Prelude.{ℕ, List, codes, Option, None}
use Rattle.table_printer.specs.declared.cause.PrintCause.{PrintCause}

abbrev pub code_of : PrintCause → List ℕ
code_of cause = codes "P1"

-- it is told of an output, and of no input
abbrev pub place_of : PrintCause → Option ℕ
place_of cause = None
