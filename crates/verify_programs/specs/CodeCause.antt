-- What users are told of what keeps code from being well shaped.
use Rattle.std.specs.Prelude.{ℕ, List, codes}
use Rattle.verify_programs.specs.declared.cause.CodeCause as causes
use Rattle.verify_programs.specs.declared.cause.CodeCause.TheVariants as cause

abbrev pub code_of : causes.CodeCause → List ℕ
code_of cause.Jump = codes "V7"
code_of cause.TooFew = codes "V8"
code_of cause.TooDeep = codes "V9"
code_of cause.Operands = codes "V10"
code_of cause.Unknown = codes "V11"
code_of cause.Slot = codes "V12"
code_of cause.PoolEntry = codes "V13"
code_of cause.TooWide = codes "V14"
code_of cause.Values = codes "V15"
code_of cause.Pattern = codes "V16"
code_of cause.Bounds = codes "V17"
code_of cause.Unreachable = codes "V18"
