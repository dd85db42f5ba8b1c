-- Which texts a ledger has: what each include line comes to, given what the source answers.
use Rattle.std.specs.Prelude.{◌≡◌, ℕ, zero, suc, List, [], ◌∷◌, length, Result, Ok, Err}
use Rattle.std.specs.Bool.{MatchBool}
use Rattle.std.specs.Str.{is_utf8}
use Rattle.stores.specs.Reading.{Reading}
use Rattle.stores.specs.declared.source.SourceFault.{SourceFault}
use Rattle.stores.specs.declared.source.SourceFault.TheVariants as source
use Rattle.refusals.specs.declared.refusal.Refusal.TheVariants.{Refused}
use Rattle.bean_load.specs.Gathered.{Gathered, is_full, is_too_large, nothing, was_asked}
use Rattle.bean_load.specs.Gathered.{with_asked, with_bytes, with_fault, with_file, with_part}
use Rattle.bean_load.specs.Include.{AreIncludes, Include}
use Rattle.refusals.specs.declared.refusal.Refusal.{Refusal}
use Rattle.bean_load.specs.declared.cause.LoadCause.{LoadCause}
use Rattle.bean_load.specs.declared.cause.LoadCause.TheVariants.{Unreadable, NotUtf8, TooLarge}
use Rattle.bean_load.specs.declared.gathering.TheConstants.{DEEPEST}

-- What comes of what is known so far: which readings are left of those to come from the source, and
-- what is known then, or why there are no texts.
abbrev pub Step : Type 1
Step = Gathered → List Reading → List Reading → Result Gathered (Refusal LoadCause) → Type 0

abbrev pub Ends : Result Gathered (Refusal LoadCause) → List Reading → List Reading
    → Result Gathered (Refusal LoadCause) → Type 0
Ends end todo rest result = (todo ≡ rest) × (result ≡ end)

-- the next reading is of that name
abbrev pub AsksFor : List ℕ → List Reading → (Result (List ℕ) SourceFault → List Reading → Type 0)
    → Type 0
AsksFor name todo Next =
    (answer : Result (List ℕ) SourceFault) × (left : List Reading) × (todo ≡ (name, answer) ∷ left)
    × Next answer left

-- L3 for bytes that are too many; else those that are a text are read
abbrev pub BytesCome : (List ℕ → Result Gathered (Refusal LoadCause))
    → (List ℕ → List Reading → List Reading → Result Gathered (Refusal LoadCause) → Type 0) → Gathered
    → List ℕ → List Reading → List Reading → Result Gathered (Refusal LoadCause) → Type 0
BytesCome no_text Text s bytes todo rest result =
    MatchBool (is_too_large (length bytes) s) (Ends (Err (Refused TooLarge)) todo rest result)
    (MatchBool (is_utf8 bytes) (Text bytes todo rest result)
    (Ends (no_text bytes) todo rest result))

abbrev pub AnswerComes : Result Gathered (Refusal LoadCause) → (List ℕ → Result Gathered (Refusal LoadCause))
    → (List ℕ → List Reading → List Reading → Result Gathered (Refusal LoadCause) → Type 0) → Gathered
    → Result (List ℕ) SourceFault → List Reading → List Reading → Result Gathered (Refusal LoadCause) → Type 0
AnswerComes unread no_text Text s (Ok bytes) todo rest result =
    BytesCome no_text Text s bytes todo rest result
AnswerComes unread no_text Text s (Err source.Failed) todo rest result =
    Ends unread todo rest result
AnswerComes unread no_text Text s (Err source.OutOfMemory) todo rest result = ⊥

-- the text goes on behind a line where another text stands
abbrev pub gone_on : ℕ → ℕ → Result Gathered (Refusal LoadCause) → Result Gathered (Refusal LoadCause)
gone_on file line (Ok s) = Ok (with_part file line s)
gone_on file line (Err fault) = Err fault

-- a text stands at a line
abbrev pub Stands : (List ℕ → List ℕ → Step) → ℕ → Include → List ℕ → Step
Stands Text file line bytes s todo rest result =
    (end : Result Gathered (Refusal LoadCause)) × Text line.name bytes s todo rest end
    × (result ≡ gone_on file line.line end)

-- what an include line comes to: F22 where its name was asked before; L3 where there is no room for
-- it; F22 where the source fails; L3 for too many bytes; F22 for bytes that are no text; else the
-- text stands there
abbrev pub LineBy : (List ℕ → List ℕ → Step) → ℕ → ℕ → Include → Step
LineBy Text room file line s todo rest result =
    MatchBool (was_asked line.name s) (Ends (Ok (with_fault file line.line s)) todo rest result)
    (MatchBool (is_full room s) (Ends (Err (Refused TooLarge)) todo rest result)
    (AsksFor line.name todo (λ answer left. AnswerComes
    (Ok (with_fault file line.line (with_asked line.name s)))
    (λ bytes. Ok (with_fault file line.line (with_bytes line.name bytes s)))
    (λ bytes. Stands Text file line bytes (with_bytes line.name bytes s)) s answer left rest
    result)))

abbrev pub Then : Step → Result Gathered (Refusal LoadCause) → List Reading → List Reading
    → Result Gathered (Refusal LoadCause) → Type 0
Then Next (Ok s) todo rest result = Next s todo rest result
Then Next (Err fault) todo rest result = Ends (Err fault) todo rest result

-- the include lines of a text, one after the other
abbrev pub LinesBy : (Include → Step) → List Include → Step
LinesBy Line [] s todo rest result = Ends (Ok s) todo rest result
LinesBy Line (line ∷ lines) s todo rest result =
    (mid : Result Gathered (Refusal LoadCause)) × (left : List Reading) × Line line s todo left mid
    × Then (LinesBy Line lines) mid left rest result

-- a text is the next one, and its include lines come
abbrev pub TextBy : (ℕ → Include → Step) → List ℕ → List ℕ → Step
TextBy Line name bytes s todo rest result =
    (lines : List Include) × AreIncludes name bytes lines
    × LinesBy (Line (length s.files)) lines (with_file name bytes s) todo rest result

-- what a text comes to that stands below another: nothing stands where there is no room
unfoldable pub TextBelow : ℕ → List ℕ → List ℕ → Step
TextBelow zero name bytes s todo rest result = ⊥
TextBelow (suc room) name bytes s todo rest result =
    TextBy (LineBy (TextBelow room) room) name bytes s todo rest result

-- an include line of a text below which so many may stand in one another
abbrev pub LineComes : ℕ → ℕ → Include → Step
LineComes room = LineBy (TextBelow room) room

abbrev pub LinesCome : ℕ → ℕ → List Include → Step
LinesCome room file = LinesBy (LineComes room file)

abbrev pub TextComes : ℕ → List ℕ → List ℕ → Step
TextComes room = TextBy (LineComes room)

-- what a ledger comes to whose top text has that name, given all that the source answered: L1, L3,
-- L2, or its text is read
abbrev pub Comes : List ℕ → List Reading → Result Gathered (Refusal LoadCause) → Type 0
Comes name readings result =
    AsksFor name readings (λ answer left. AnswerComes (Err (Refused Unreadable)) (λ bytes. Err (Refused NotUtf8))
    (λ bytes todo rest end.
    TextComes DEEPEST name bytes (with_bytes name bytes nothing) todo rest end)
    nothing answer left [] result)
