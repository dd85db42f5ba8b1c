-- Candidates of which the first are enough.
use Rattle.std.specs.Prelude.{◌≡◌, ◌≤◌, ◌<◌, ◌⊎◌, ℕ, List, [], ◌++◌, length, sum_by}
use Rattle.bean_inventories.specs.Days.{RiseInDays}
use Rattle.bean_lots.specs.declared.lot.Lot.{Lot}
use Rattle.bean_lots.specs.declared.lot.Position.{Position}
use Rattle.bean_reductions.specs.Take.{units_of}
use Rattle.bean_reductions.specs.declared.reduction.Method.{Method}
use Rattle.bean_reductions.specs.declared.reduction.Method.TheVariants.{Strict, Fifo}
use Rattle.bean_reductions.specs.declared.reduction.front.Front.{Front}
use Rattle.bean_reductions.specs.declared.reduction.front.Front.TheVariants.{All, ToWant, PastWant}

-- so many candidates, of so many units, are as many as are looked for, though there be more
abbrev pub IsReached : Front → ℕ → ℕ → ℕ → Type 0
IsReached All want lots units = ⊥
IsReached ToWant want lots units = want ≤ units
IsReached PastWant want lots units = (1 < lots) × (want < units)

-- by the first candidates it is settled what the method takes of what is held
abbrev pub IsFrontFor : Front → Method → List Position → Type 0
IsFrontFor All m es = Unit {0}
IsFrontFor ToWant m es = (m ≡ Fifo) × RiseInDays es
IsFrontFor PastWant m es = m ≡ Strict

-- what was found are the first of the candidates cs: all of them, or as many as are looked for
pub record IsFront (front : Front) (want : ℕ) (found cs : List (Lot × ℕ)) : Type 0 where
  pub rest : List (Lot × ℕ)
  pub all : cs ≡ found ++ rest
  pub enough : (rest ≡ []) ⊎ IsReached front want (length found) (sum_by units_of found)
