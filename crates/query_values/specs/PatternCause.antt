-- What users are told of a text that is no pattern.
use Rattle.std.specs.Prelude.{ℕ, List, codes, Option, None}
use Rattle.query_values.specs.declared.cause.PatternCause.{PatternCause}

abbrev pub code_of : PatternCause → List ℕ
code_of cause = codes "C2"

-- it is told of a whole text
abbrev pub place_of : PatternCause → Option ℕ
place_of cause = None
