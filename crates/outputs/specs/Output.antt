-- What was handed over to an output.
use Rattle.std.specs.Prelude.{◌≡◌, ℕ, ◌<◌, ◌≤◌, ◌⊎◌, nat_lt, List, [], ◌++◌, length, take, drop}
use Rattle.std.specs.Prelude.{Result, Ok, Err}
use Rattle.outputs.specs.Refusals.{refusals_behind}
use Rattle.outputs.specs.declared.output.NotTaken.{NotTaken}
use Rattle.outputs.specs.declared.output.Output.{Ghosts as OutputOf}

-- `OutputOf W` is what an output of the type W tells of itself; a clause writes it `W.Output`.

-- calls, one behind the other, each of which took a front of what it was offered; together they
-- took these bytes
pub data Took {W : Type 0} (o : OutputOf W) : W → W → List ℕ → Type 0 where
  no_call : (w : W) → Took o w w []
  one_more : (first middle last : W) (before offered : List ℕ) (n : ℕ) → Took o first middle before
      → o.may_answer middle offered (Ok n) last → Took o first last (before ++ take n offered)

-- a call at these bytes failed or took nothing
pub record Refuses {W : Type 0} (o : OutputOf W) (before after : W) (bytes : List ℕ) : Type 0 where
  pub answer : Result ℕ NotTaken
  pub nothing : (answer ≡ Ok 0) ⊎ ((e : NotTaken) × (answer ≡ Err e))
  pub told : o.may_answer before bytes answer after

-- a call at the first of these bytes, one or more of them, failed or took nothing
pub record RefusesSome {W : Type 0} (o : OutputOf W) (before after : W) (bytes : List ℕ) : Type 0 where
  pub offered : List ℕ
  pub behind : List ℕ
  pub is : bytes ≡ offered ++ behind
  pub some : 0 < length offered
  pub refuses : Refuses o before after offered

-- The output took the first n of the bytes; then the rest was refused, once, or there was none.
pub record TookUntil {W : Type 0} (o : OutputOf W) (IsRefused : W → W → List ℕ → Type 0)
    (old new : W) (bytes : List ℕ) (n : ℕ) : Type 0 where
  pub within : n ≤ length bytes
  pub middle : W
  pub took : Took o old middle (take n bytes)
  pub refused : n < length bytes → IsRefused middle new (drop n bytes)
  pub whole : n ≡ length bytes → new ≡ middle
  pub counted : o.refusals new ≡ refusals_behind (o.refusals old) (nat_lt n (length bytes))

-- all that was left was offered to it at once
abbrev pub TookFront : {W : Type 0} → OutputOf W → W → W → List ℕ → ℕ → Type 0
TookFront o = TookUntil o (Refuses o)

-- some of what was left was, from the front on, as of a text that is handed over in pieces
abbrev pub TookInPieces : {W : Type 0} → OutputOf W → W → W → List ℕ → ℕ → Type 0
TookInPieces o = TookUntil o (RefusesSome o)
