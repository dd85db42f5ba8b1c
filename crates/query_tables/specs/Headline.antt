-- What bytes answer over a ledger.
use Rattle.std.specs.Prelude.{◌≡◌, ◌⊎◌, ℕ, true, false, List, Result, Ok, Err}
use Rattle.bql_parser.specs.Answer.{query_of}
use Rattle.bql_parser.specs.declared.query.Query.{Query}
use Rattle.bql_compiler.specs.Program.{parts_of}
use Rattle.bql_types.specs.Typing.{IsTyped}
use Rattle.limits.specs.declared.bounds.Bounds.{Bounds}
use Rattle.posting_table.specs.Ledger.{Ledger}
use Rattle.posting_table.specs.Rows.{rows_of}
use Rattle.query_code.specs.QueryFile.{IsFile, decoded}
use Rattle.query_code.specs.Upgrade.{upgraded}
use Rattle.query_code.specs.declared.program.Parts.{Parts}
use Rattle.query_machine.specs.declared.cause.RunCause.TheVariants.{OutsideBounds}
use Rattle.query_rows.specs.Fits.{fits}
use Rattle.query_tables.specs.Table.{IsTableOf}
use Rattle.query_tables.specs.declared.cause.AnswerCause.{AnswerCause}
use Rattle.query_tables.specs.declared.cause.AnswerCause.TheVariants.{NotAccepted, NotRun}
use Rattle.query_verifier.specs.Checking.{IsRefused, IsVerified}
use Rattle.query_verifier.specs.declared.cause.VerifierCause.TheVariants.{Code, File}
use Rattle.refusals.specs.declared.refusal.Refusal.{Refusal}
use Rattle.refusals.specs.declared.refusal.Refusal.TheVariants.{OutOfMemory, Refused}
use Rattle.verify_programs.specs.declared.cause.CodeCause.TheVariants.{Pattern}

-- ---- which bytes

-- They are the file of the program that a query with a type is compiled to, or one of the first
-- version of which that is the upgrade.
pub record AreCompiled (bytes : List ℕ) (b : Bounds) (q : Query) : Type 0 where
  pub program : Parts
  pub is_file : IsFile bytes program
  pub is_typed : IsTyped b (query_of q)
  pub is_compiled : (program ≡ parts_of b (query_of q)) ⊎ (upgraded program ≡ parts_of b (query_of q))

-- ---- what they answer

-- the text is the table of their program
pub record IsAnswered (bytes : List ℕ) (l : Ledger) (text : List ℕ) : Type 0 where
  pub program : Parts
  pub depth : ℕ
  pub verified : IsVerified bytes program depth
  pub table : IsTableOf program depth l text

-- the ledger is outside the bounds of their program
pub record IsOutside (bytes : List ℕ) (l : Ledger) : Type 0 where
  pub program : Parts
  pub depth : ℕ
  pub verified : IsVerified bytes program depth
  pub outside : fits program.bounds (rows_of l) ≡ false

-- The table of their program; or M1; or the first field that keeps them from being a file, or why
-- their program isn't accepted, and where. Want of memory says nothing.
abbrev pub AnswersFile : List ℕ → Ledger → Result (List ℕ) (Refusal AnswerCause) → Type 0
AnswersFile bytes l (Ok text) = IsAnswered bytes l text
AnswersFile bytes l (Err OutOfMemory) = Unit {0}
AnswersFile bytes l (Err (Refused (NotAccepted (File cause)))) = decoded bytes ≡ Err cause
AnswersFile bytes l (Err (Refused (NotAccepted (Code cause place)))) = IsRefused bytes cause place
AnswersFile bytes l (Err (Refused (NotRun OutsideBounds))) = IsOutside bytes l

-- What a well shaped program may come to, memory and patterns that aren't built aside: a table
-- exactly where the ledger is within its bounds, and M1 exactly where it is outside.
abbrev pub ComesTo : Parts → Ledger → Result (List ℕ) (Refusal AnswerCause) → Type 0
ComesTo p l (Ok text) = fits p.bounds (rows_of l) ≡ true
ComesTo p l (Err OutOfMemory) = Unit {0}
ComesTo p l (Err (Refused (NotAccepted (Code Pattern place)))) = Unit {0}
ComesTo p l (Err (Refused (NotAccepted cause))) = ⊥
ComesTo p l (Err (Refused (NotRun OutsideBounds))) = fits p.bounds (rows_of l) ≡ false

-- the table of a program that was checked, with the causes of files
abbrev pub RunsChecked : Parts → ℕ → Ledger → Result (List ℕ) (Refusal AnswerCause) → Type 0
RunsChecked p depth l (Ok text) = IsTableOf p depth l text
RunsChecked p depth l (Err OutOfMemory) = Unit {0}
RunsChecked p depth l (Err (Refused (NotAccepted cause))) = ⊥
RunsChecked p depth l (Err (Refused (NotRun OutsideBounds))) = fits p.bounds (rows_of l) ≡ false
