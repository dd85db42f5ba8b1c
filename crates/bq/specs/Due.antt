-- What is due to a command, given what the store gave.
use Rattle.std.specs.Prelude.{◌≡◌, ◌⊎◌, ⊤, Bool, true, false, List, [], Result, Ok, Err}
use Rattle.query_files.specs.Files as files
use Rattle.query_files.specs.Texts as texts
use Rattle.stores.specs.Reading.{Reading}
use Rattle.bq.specs.declared.given.Given.{Given}
use Rattle.bq.specs.declared.given.Given.TheVariants.{Kept, Told}
use Rattle.endings.specs.declared.refusal.Cause.{Cause}
use Rattle.endings.specs.declared.refusal.Cause.TheVariants.{File, Text}
use Rattle.endings.specs.declared.refusal.Refusal.{Refusal}
use Rattle.endings.specs.declared.refusal.Refusal.TheVariants as refusal
use Rattle.endings.specs.declared.verdict.Verdict.{Verdict}
use Rattle.endings.specs.declared.verdict.Verdict.TheVariants as verdict

-- What a command comes to: what it gives, or the cause for which its words or its input are
-- refused.
abbrev pub End : Type 0
End = Result Given Cause

-- which ends are due
abbrev pub Due : Type 1
Due = List Reading → End → Type 0

-- this is due, and nothing more is asked of the store
abbrev pub at_once : (End → Type 0) → Due
at_once Is readings end = (readings ≡ []) × Is end

-- A call comes to one of these ends. Memory may lack at any time, and nothing is written yet.
abbrev pub ComesTo : (End → Type 0) → Result Given Refusal → Type 0
ComesTo Is (Ok given) = Is (Ok given)
ComesTo Is (Err (refusal.Refused cause)) = Is (Err cause)
ComesTo Is (Err refusal.OutOfMemory) = ⊤
ComesTo Is (Err (refusal.NotWritten n)) = ⊥
ComesTo Is (Err refusal.NotKept) = ⊥

-- ---- that one end is due

-- whether a pattern is built isn't told, so where one stands this may be due or not
abbrev pub is_of_pattern : Cause → Bool
is_of_pattern (File cause) = files.is_of_pattern cause
is_of_pattern (Text cause) = texts.is_of_pattern cause
is_of_pattern cause = false

-- The same cause; but of a text that is no query, and of a program that isn't well shaped, it isn't
-- told which of the causes is due.
abbrev pub IsLike : Cause → Cause → Type 0
IsLike (Text a) (Text b) = texts.IsLike a b
IsLike (File a) (File b) = files.IsLike a b
IsLike a b = a ≡ b

abbrev pub AreLike : Cause → Cause → Type 0
AreLike a b = IsLike a b ⊎ (is_of_pattern a ≡ true) ⊎ (is_of_pattern b ≡ true)

abbrev pub is_lacking : Verdict → Bool
is_lacking verdict.OutOfMemory = true
is_lacking verdict.Fine = false
is_lacking verdict.Faulty = false
is_lacking verdict.OutsideBounds = false

-- it tells that memory lacked for a part of what was asked for
abbrev pub lacks_memory : Given → Bool
lacks_memory (Told v text) = is_lacking v
lacks_memory (Kept name bytes) = false

-- The same is given; but where memory lacked for a part of it, which may be at any time, it isn't
-- told for which.
abbrev pub AreSame : Given → Given → Type 0
AreSame a b = (a ≡ b) ⊎ (lacks_memory a ≡ true) ⊎ (lacks_memory b ≡ true)

-- two ends of one command
abbrev pub AreAlike : End → End → Type 0
AreAlike (Ok a) (Ok b) = AreSame a b
AreAlike (Ok a) (Err c) = is_of_pattern c ≡ true
AreAlike (Err c) (Ok b) = is_of_pattern c ≡ true
AreAlike (Err a) (Err b) = AreLike a b

abbrev pub IsOneEnd : (End → Type 0) → Type 0
IsOneEnd Is = (a b : End) → Is a → Is b → AreAlike a b
