-- What users are told of a text that is no query.
use Rattle.std.specs.Prelude.{ℕ, List, codes, Option, Some}
use Rattle.bql_tree.specs.Cause as parts
use Rattle.bql_parser.specs.declared.cause.QueryCause.{QueryCause}
use Rattle.bql_parser.specs.declared.cause.QueryCause.TheVariants.{Syntax, Part}

abbrev pub code_of : QueryCause → List ℕ
code_of (Syntax place) = codes "Q1"
code_of (Part cause) = parts.code_of cause

abbrev pub place_of : QueryCause → Option ℕ
place_of (Syntax place) = Some place
place_of (Part cause) = parts.place_of cause
