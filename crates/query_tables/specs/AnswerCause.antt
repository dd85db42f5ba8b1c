-- What users are told of a file that gives no table over a ledger.
use Rattle.std.specs.Prelude.{ℕ, List, Option}
use Rattle.query_machine.specs.RunCause as run
use Rattle.query_tables.specs.declared.cause.AnswerCause as causes
use Rattle.query_tables.specs.declared.cause.AnswerCause.TheVariants.{NotAccepted, NotRun}
use Rattle.query_verifier.specs.VerifierCause as verifier

abbrev pub code_of : causes.AnswerCause → List ℕ
code_of (NotAccepted cause) = verifier.code_of cause
code_of (NotRun cause) = run.code_of cause

abbrev pub place_of : causes.AnswerCause → Option ℕ
place_of (NotAccepted cause) = verifier.place_of cause
place_of (NotRun cause) = run.place_of cause
