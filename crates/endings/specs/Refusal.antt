-- How the program ends where there is no answer: its status, and the line on standard error.
use Rattle.std.specs.Prelude.{ℕ, List, [], ◌++◌, codes, Option, Some, None}
use Rattle.std.specs.Fmt.{decimal}
use Rattle.bean_load.specs.LoadCause as load
use Rattle.bean_load.specs.declared.cause.LoadCause.{LoadCause}
use Rattle.bean_load.specs.declared.cause.LoadCause.TheVariants as loads
use Rattle.bean_replay.specs.BookCause as book
use Rattle.bean_replay.specs.declared.cause.BookCause.{BookCause}
use Rattle.bean_replay.specs.declared.cause.BookCause.TheVariants as books
use Rattle.query_code.specs.declared.cause.FileCause.{FileCause}
use Rattle.query_files.specs.TextCause as text
use Rattle.query_files.specs.declared.cause.TextCause.{TextCause}
use Rattle.query_machine.specs.RunCause as run
use Rattle.query_machine.specs.declared.cause.RunCause.{RunCause}
use Rattle.query_machine.specs.declared.cause.RunCause.TheVariants as runs
use Rattle.query_verifier.specs.VerifierCause as verifier
use Rattle.query_verifier.specs.declared.cause.VerifierCause.{VerifierCause}
use Rattle.query_verifier.specs.declared.cause.VerifierCause.TheVariants as files
use Rattle.refusals.specs.declared.refusal.Refusal as refusals
use Rattle.refusals.specs.declared.refusal.Refusal.TheVariants as refusal
use Rattle.endings.specs.declared.refusal.Cause.{Cause}
use Rattle.endings.specs.declared.refusal.Cause.TheVariants.{Words, Load, Text, File}
use Rattle.endings.specs.declared.refusal.Cause.TheVariants.{TooManyPostings, OutsideBounds}
use Rattle.endings.specs.declared.refusal.Refusal.{Refusal}
use Rattle.endings.specs.declared.refusal.Refusal.TheVariants.{OutOfMemory, Refused, NotWritten}
use Rattle.endings.specs.declared.refusal.Refusal.TheVariants.{NotKept}

-- 2 where words or input are refused, 3 where they can't be read
abbrev pub status_by : Cause → ℕ
status_by Words = 2
status_by (Load loads.TooLarge) = 2
status_by (Load loads.NotUtf8) = 2
status_by (Load loads.Unreadable) = 3
status_by (Text cause) = 2
status_by (File cause) = 2
status_by TooManyPostings = 2
status_by OutsideBounds = 2

-- 3 also where writing failed, and 4 where memory lacked
abbrev pub status_of : Refusal → ℕ
status_of (Refused cause) = status_by cause
status_of (NotWritten n) = 3
status_of NotKept = 3
status_of OutOfMemory = 4

abbrev pub code_by : Cause → List ℕ
code_by Words = codes "words"
code_by (Load cause) = load.code_of cause
code_by (Text cause) = text.code_of cause
code_by (File cause) = verifier.code_of cause
code_by TooManyPostings = book.code_of books.TooManyPostings
code_by OutsideBounds = run.code_of runs.OutsideBounds

abbrev pub code_of : Refusal → List ℕ
code_of (Refused cause) = code_by cause
code_of (NotWritten n) = codes "P1"
code_of NotKept = codes "P1"
code_of OutOfMemory = codes "M2"

-- why a text has no program, and why a query file isn't accepted, names the byte where there is one
abbrev pub place_by : Cause → Option ℕ
place_by (Text cause) = text.place_of cause
place_by (File cause) = verifier.place_of cause
place_by cause = None

abbrev pub place_of : Refusal → Option ℕ
place_of (Refused cause) = place_by cause
place_of refusal = None

abbrev pub place_text : Option ℕ → List ℕ
place_text None = []
place_text (Some place) = codes " at " ++ decimal place

-- the line that tells a cause, with its line feed
abbrev pub line_at : List ℕ → Option ℕ → List ℕ
line_at code place = codes "bq: " ++ code ++ place_text place ++ codes "\n"

abbrev pub line_of : Refusal → List ℕ
line_of refusal = line_at (code_of refusal) (place_of refusal)

-- the refusals of what the program stands on

abbrev pub unread : refusals.Refusal LoadCause → Refusal
unread (refusal.Refused cause) = Refused (Load cause)
unread refusal.OutOfMemory = OutOfMemory

abbrev pub undecoded : refusals.Refusal FileCause → Refusal
undecoded (refusal.Refused cause) = Refused (File (files.File cause))
undecoded refusal.OutOfMemory = OutOfMemory

abbrev pub uncompiled : refusals.Refusal TextCause → Refusal
uncompiled (refusal.Refused cause) = Refused (Text cause)
uncompiled refusal.OutOfMemory = OutOfMemory

abbrev pub unaccepted : refusals.Refusal VerifierCause → Refusal
unaccepted (refusal.Refused cause) = Refused (File cause)
unaccepted refusal.OutOfMemory = OutOfMemory

abbrev pub unrun : refusals.Refusal RunCause → Refusal
unrun (refusal.Refused cause) = Refused OutsideBounds
unrun refusal.OutOfMemory = OutOfMemory

abbrev pub unbooked : refusals.Refusal BookCause → Refusal
unbooked (refusal.Refused cause) = Refused TooManyPostings
unbooked refusal.OutOfMemory = OutOfMemory
