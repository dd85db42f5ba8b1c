-- What users are told of a query that has no program.
use Rattle.std.specs.Prelude.{ℕ, List, codes, Option, None}
use Rattle.bql_compiler.specs.declared.cause.CompileCause.{CompileCause}
use Rattle.bql_compiler.specs.declared.cause.CompileCause.TheVariants.{TooLong, NotBuilt, TooDeep}

abbrev pub code_of : CompileCause → List ℕ
code_of TooLong = codes "C1"
code_of NotBuilt = codes "C2"
code_of TooDeep = codes "C3"

-- it is told of a whole query
abbrev pub place_of : CompileCause → Option ℕ
place_of cause = None
