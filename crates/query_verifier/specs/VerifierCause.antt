-- What users are told of why a file isn't accepted.
use Rattle.std.specs.Prelude.{ℕ, List, Option, Some}
use Rattle.query_code.specs.FileCause as file
use Rattle.verify_programs.specs.CodeCause as code
use Rattle.query_verifier.specs.declared.cause.VerifierCause as causes
use Rattle.query_verifier.specs.declared.cause.VerifierCause.TheVariants.{File, Code}

abbrev pub code_of : causes.VerifierCause → List ℕ
code_of (File c) = file.code_of c
code_of (Code c place) = code.code_of c

abbrev pub place_of : causes.VerifierCause → Option ℕ
place_of (File c) = file.place_of c
place_of (Code c place) = Some place
