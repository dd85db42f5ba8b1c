-- Texts that are handed over in pieces.
use Rattle.std.specs.Prelude.{◌≡◌, ℕ, ◌+◌, ◌<◌, List, ◌++◌, length, Result, Ok, Err}
use Rattle.std.specs.Borrow.{Bor}
use Rattle.std.specs.List.{flat_map}
use Rattle.outputs.specs.Output.{TookFront, TookInPieces}
use Rattle.outputs.specs.declared.output.NotTaken.{NotTaken}
use Rattle.outputs.specs.declared.output.Output.{Ghosts as OutputOf}

-- What stands before an output: the bytes that wait, and how many it took of the text so far.
pub record Pieces : Type 0 where
  pub waiting : List ℕ
  pub taken : ℕ

-- how many bytes the text has so far
abbrev pub length_so_far : Pieces → ℕ
length_so_far p = p.taken + length p.waiting

-- This is the text so far: the output took a front of it, and the rest waits.
pub record Waits {W : Type 0} (o : OutputOf W) (start now : W) (p : Pieces) (text : List ℕ) :
    Type 0 where
  pub front : List ℕ
  pub is : text ≡ front ++ p.waiting
  pub took : TookInPieces o start now front p.taken
  pub whole : p.taken ≡ length front

-- it refused, behind as many bytes of the text as were taken
abbrev pub Stopped : {W : Type 0} → OutputOf W → W → W → Pieces → List ℕ → Type 0
Stopped o start now p text = TookInPieces o start now text p.taken × (p.taken < length text)

-- how it stands behind a call, as that ended
abbrev pub Stands : {W : Type 0} → OutputOf W → W → W → Pieces → List ℕ → Result Unit NotTaken → Type 0
Stands o start now p text (Ok x) = Waits o start now p text
Stands o start now p text (Err e) = Stopped o start now p text

-- pieces, one behind the other
abbrev pub together : List (Bor (List ℕ)) → List ℕ
together pieces = flat_map (λ p. p.now) pieces

-- whichever the text so far is, the piece comes behind it
abbrev pub Puts : {W : Type 0} → OutputOf W → W → W → Pieces → Pieces → List ℕ → Result Unit NotTaken
    → Type 0
Puts {W} o before after old new piece result =
    (start : W) (text : List ℕ) → Waits o start before old text
    → Stands o start after new (text ++ piece) result

-- whichever the text so far is, it stays that
abbrev pub Flushes : {W : Type 0} → OutputOf W → W → W → Pieces → Pieces → Result Unit NotTaken → Type 0
Flushes {W} o before after old new result =
    (start : W) (text : List ℕ) → Waits o start before old text
    → Stands o start after new text result

-- ---- laws

-- what is handed over at once is handed over in pieces, too
abbrev pub IsOnePiece : {W : Type 0} → OutputOf W → Type 0
IsOnePiece {W} o =
    (old new : W) (text : List ℕ) (n : ℕ) → TookFront o old new text n
    → TookInPieces o old new text n

-- what is taken of a text behind one that was taken whole, is taken of both together
abbrev pub AreJoined : {W : Type 0} → OutputOf W → Type 0
AreJoined {W} o =
    (old middle new : W) (first second : List ℕ) (n : ℕ)
    → TookInPieces o old middle first (length first) → TookInPieces o middle new second n
    → TookInPieces o old new (first ++ second) (length first + n)

-- where a text isn't taken whole, nothing is of what stands behind it
abbrev pub EndsEarly : {W : Type 0} → OutputOf W → Type 0
EndsEarly {W} o =
    (old new : W) (first second : List ℕ) (n : ℕ) → TookInPieces o old new first n
    → n < length first → TookInPieces o old new (first ++ second) n
