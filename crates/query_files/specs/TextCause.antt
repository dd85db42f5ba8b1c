-- What users are told of a text that gives no file.
use Rattle.std.specs.Prelude.{ℕ, List, Option}
use Rattle.bql_compiler.specs.CompileCause as compiler
use Rattle.bql_parser.specs.QueryCause as query
use Rattle.bql_types.specs.Cause as typing
use Rattle.query_files.specs.declared.cause.TextCause.{TextCause}
use Rattle.query_files.specs.declared.cause.TextCause.TheVariants.{Query, Typing, Compile}

abbrev pub code_of : TextCause → List ℕ
code_of (Query cause) = query.code_of cause
code_of (Typing cause) = typing.code_of cause
code_of (Compile cause) = compiler.code_of cause

abbrev pub place_of : TextCause → Option ℕ
place_of (Query cause) = query.place_of cause
place_of (Typing cause) = typing.place_of cause
place_of (Compile cause) = compiler.place_of cause
