-- What users are told of what keeps bytes from being a query file.
use Rattle.std.specs.Prelude.{ℕ, List, codes, Option, Some}
use Rattle.query_code.specs.declared.cause.FileCause.{FileCause}
use Rattle.query_code.specs.declared.cause.FileCauseKind.{FileCauseKind}
use Rattle.query_code.specs.declared.cause.FileCauseKind.TheVariants as kind

abbrev pub code_of_kind : FileCauseKind → List ℕ
code_of_kind kind.Magic = codes "V1"
code_of_kind kind.Version = codes "V2"
code_of_kind kind.Truncated = codes "V3"
code_of_kind kind.TrailingBytes = codes "V4"
code_of_kind kind.BadField = codes "V5"
code_of_kind kind.NotUtf8 = codes "V6"

abbrev pub code_of : FileCause → List ℕ
code_of cause = code_of_kind cause.kind

abbrev pub place_of : FileCause → Option ℕ
place_of cause = Some cause.place
