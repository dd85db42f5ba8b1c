-- What a run of the program comes to.
use Rattle.std.specs.Prelude.{◌≡◌, ℕ, ◌<◌, ◌⊎◌, ⊤, false, List, length, Option, Result, Ok, Err}
use Rattle.clap.specs.Walk.{Text}
use Rattle.outputs.specs.Output.{TookFront, TookInPieces}
use Rattle.outputs.specs.declared.output.Output.{Ghosts as OutputOf}
use Rattle.stores.specs.Reading.{Reading}
use Rattle.stores.specs.Source.{Gave}
use Rattle.stores.specs.declared.source.Source.{Ghosts as SourceOf}
use Rattle.stores.specs.declared.source.SourceFault.{SourceFault}
use Rattle.stores.specs.declared.source.SourceFault.TheVariants as store
use Rattle.bq.specs.Commands.{due, due_to}
use Rattle.bq.specs.Due.{AreLike, ComesTo, Due, IsOneEnd, is_of_pattern}
use Rattle.bq.specs.Keeping.{PutsFile, StoreOf}
use Rattle.endings.specs.Refusal.{line_of, status_of}
use Rattle.endings.specs.Verdict as verdicts
use Rattle.bq.specs.declared.given.Given.{Given}
use Rattle.bq.specs.declared.given.Given.TheVariants.{Told, Kept}
use Rattle.endings.specs.declared.refusal.Cause.{Cause}
use Rattle.endings.specs.declared.refusal.Refusal.{Refusal}
use Rattle.endings.specs.declared.refusal.Refusal.TheVariants as refusal
use Rattle.endings.specs.declared.verdict.Verdict.{Verdict}
use Rattle.endings.specs.declared.verdict.Verdict.TheVariants.{Fine}
use Rattle.requests.specs.declared.words.Request.{Request}

-- What an output took: of this text so many bytes, from the front on, and the rest refused; or
-- nothing was offered to it.
pub record Written : Type 1 where
  pub took : List ℕ → ℕ → Type 0
  pub nothing : Type 0

-- What a run did: what the store was asked for, in order, with its answers; behind that, the file
-- that it was to keep, with its answer; and what was written.
pub record Deeds : Type 1 where
  pub gave : List Reading → Type 0
  pub kept : List Reading → Text → List ℕ → Result Unit SourceFault → Type 0
  pub out : Written

-- a text, which may come in pieces
abbrev pub written : {O : Type 0} → OutputOf O → O → O → Written
written o old new = record { took = TookInPieces o old new; nothing = new ≡ old }

-- a line, all of which is offered at once
abbrev pub written_at_once : {O : Type 0} → OutputOf O → O → O → Written
written_at_once o old new = record { took = TookFront o old new; nothing = new ≡ old }

abbrev pub deeds : {S : Type 0} → StoreOf S → S → S → Written → Deeds
deeds s old new out = record {
  gave = Gave s.source old new;
  kept = PutsFile s old new;
  out = out;
}

-- ---- what is done with what is due

-- a text that is due was taken by the output as far as this
abbrev pub Tells : Due → Deeds → List Reading → Verdict → List ℕ → ℕ → Type 0
Tells due run readings verdict text n =
    run.gave readings × due readings (Ok (Told verdict text)) × run.out.took text n

-- a file that is due was to be kept, and the store answered so
abbrev pub Keeps : Due → Deeds → List Reading → Result Unit SourceFault → Type 0
Keeps due run readings answer =
    (name : Text) × (bytes : List ℕ) × due readings (Ok (Kept name bytes))
    × run.kept readings name bytes answer × run.out.nothing

-- What comes of a run: what is due is given whole; or a cause is due, and nothing is written; or the
-- output or the store fails on the way; or memory lacks, which may be at any time.
abbrev pub Comes : Due → Deeds → List Reading → Result Verdict Refusal → Type 0
Comes due run readings (Ok verdict) =
    ((text : List ℕ) × Tells due run readings verdict text (length text))
    ⊎ ((verdict ≡ Fine) × Keeps due run readings (Ok tt))
Comes due run readings (Err (refusal.Refused cause)) =
    run.gave readings × due readings (Err cause) × run.out.nothing
Comes due run readings (Err (refusal.NotWritten n)) =
    (verdict : Verdict) × (text : List ℕ) × Tells due run readings verdict text n
    × (n < length text)
Comes due run readings (Err refusal.NotKept) = Keeps due run readings (Err store.Failed)
Comes due run readings (Err refusal.OutOfMemory) =
    (run.gave readings × run.out.nothing) ⊎ Keeps due run readings (Err store.OutOfMemory)

-- that is: what it gives is due, or the cause
abbrev pub IsDue : Due → List Reading → Result Verdict Refusal → Type 0
IsDue due readings (Ok verdict) = (given : Given) × due readings (Ok given)
IsDue due readings (Err (refusal.Refused cause)) = due readings (Err cause)
IsDue due readings (Err (refusal.NotWritten n)) = (given : Given) × due readings (Ok given)
IsDue due readings (Err refusal.NotKept) = (given : Given) × due readings (Ok given)
IsDue due readings (Err refusal.OutOfMemory) = ⊤

abbrev pub Runs : Deeds → List Text → Result Verdict Refusal → Type 0
Runs run words result =
    (readings : List Reading) × Comes (due_to words) run readings result
    × IsDue (due_to words) readings result

-- the store gave what it was asked for, and with it this is found
abbrev pub Finds : {S : Type 0} → SourceOf S → S → S → Due → Result Given Refusal → Type 0
Finds s old new due result =
    (readings : List Reading) × Gave s old new readings × ComesTo (due readings) result

-- a text is written whole, or the output refuses behind a front of it
abbrev pub WritesText : Written → List ℕ → Result Unit Refusal → Type 0
WritesText out text (Ok x) = out.took text (length text)
WritesText out text (Err (refusal.NotWritten n)) = (n < length text) × out.took text n
WritesText out text (Err refusal) = ⊥

-- ---- how it ends

-- that of the answer or of the refusal
abbrev pub status_of_run : Result Verdict Refusal → ℕ
status_of_run (Ok verdict) = verdicts.status_of verdict
status_of_run (Err r) = status_of r

-- the line of a refusal, or a front of it
abbrev pub TellsWhy : Written → Result Verdict Refusal → Type 0
TellsWhy err (Ok verdict) = err.nothing
TellsWhy err (Err r) = (n : ℕ) × err.took (line_of r) n

-- A run with this status, which tells why.
pub record Ends (run : Deeds) (err : Written) (words : List Text) (status : ℕ) : Type 0 where
  pub result : Result Verdict Refusal
  pub runs : Runs run words result
  pub status_is : status ≡ status_of_run result
  pub tells : TellsWhy err result

-- ---- laws

-- What is asked for and what the store gave decide what is due: what is given, or the cause.
abbrev pub HaveOneEnd : Type 0
HaveOneEnd = (asked : Option Request) (readings : List Reading) → IsOneEnd (due asked readings)

-- where a cause is due, it or its like comes, but where memory lacks or a pattern isn't built
abbrev pub IsRefusedFor : Cause → Result Verdict Refusal → Type 0
IsRefusedFor cause (Err (refusal.Refused c)) = AreLike cause c
IsRefusedFor cause (Err refusal.OutOfMemory) = ⊤
IsRefusedFor cause _ = ⊥

abbrev pub RefusesExactly : Type 0
RefusesExactly =
    (asked : Option Request) (readings : List Reading) (result : Result Verdict Refusal)
    (cause : Cause) → IsDue (due asked) readings result → due asked readings (Err cause)
    → is_of_pattern cause ≡ false → IsRefusedFor cause result

-- A status below 2 is that of one answer alone; the others are those of refusals, and of answers
-- that say of a part what a refusal says of the whole.
abbrev pub StatusesTell : Type 0
StatusesTell =
    (verdict : Verdict) (result : Result Verdict Refusal) → verdicts.status_of verdict < 2
    → status_of_run result ≡ verdicts.status_of verdict → result ≡ Ok verdict
