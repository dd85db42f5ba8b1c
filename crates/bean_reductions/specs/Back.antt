-- Candidates of which the last are enough.
use Rattle.std.specs.Prelude.{◌≡◌, ◌≤◌, ◌<ℤ◌, ◌≤ℤ◌, ◌⊎◌, ℕ, ℤ, Bool, false, List, [], ◌++◌, Option, Some}
use Rattle.std.specs.Prelude.{None, sum_by}
use Rattle.std.specs.Int.Signed.{lt_z}
use Rattle.std.specs.List.{AllByRecursion}
use Rattle.bean_base.specs.Day.{number}
use Rattle.bean_base.specs.declared.days.Day.{Day}
use Rattle.bean_reductions.specs.Take.{day_of, units_of}
use Rattle.bean_lots.specs.declared.lot.Lot.{Lot}

-- a lot is of an earlier day than the candidate; false where either lacks
abbrev pub is_earlier : Option Lot → Option (Lot × ℕ) → Bool
is_earlier None c = false
is_earlier (Some lot) None = false
is_earlier (Some lot) (Some c) = lt_z (number lot.day) (day_of c)

-- a lot of that day
abbrev pub IsOfDay : Day → Option Lot → Type 0
IsOfDay day None = ⊥
IsOfDay day (Some lot) = number lot.day ≡ number day

-- none is of a later day
abbrev pub AreBy : ℤ → List (Lot × ℕ) → Type 0
AreBy day cs = AllByRecursion {X = Lot × ℕ} (λ c. day_of c ≤ℤ day) cs

-- each of the first is of an earlier day than each of the second
abbrev pub AreEarlier : List (Lot × ℕ) → List (Lot × ℕ) → Type 0
AreEarlier bs cs =
    AllByRecursion {X = Lot × ℕ} (λ b. AllByRecursion {X = Lot × ℕ} (λ c. day_of b <ℤ day_of c) cs) bs

-- what was found are the last of the candidates cs: all of them, or such that come to the want,
-- with all others of their days
pub record IsBack (want : ℕ) (found cs : List (Lot × ℕ)) : Type 0 where
  pub rest : List (Lot × ℕ)
  pub all : cs ≡ rest ++ found
  pub enough : (rest ≡ []) ⊎ ((want ≤ sum_by units_of found) × AreEarlier rest found)

-- what was found are the first of the candidates of the last day that has any, and come to the want
pub record IsFirst (want : ℕ) (found cs : List (Lot × ℕ)) : Type 0 where
  pub rest : List (Lot × ℕ)
  pub more : List (Lot × ℕ)
  pub day : ℤ
  pub all : cs ≡ rest ++ (found ++ more)
  pub earlier : AreEarlier rest (found ++ more)
  pub own : AllByRecursion {X = Lot × ℕ} (λ c. day_of c ≡ day) (found ++ more)
  pub enough : want ≤ sum_by units_of found
