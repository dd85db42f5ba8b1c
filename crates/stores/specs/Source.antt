-- What a source gave over some calls.
use Rattle.std.specs.Prelude.{◌≡◌, ℕ, List, [], ◌∷◌, fold, Result}
use Rattle.std.specs.List.{flat_map}
use Rattle.stores.specs.Reading.{Reading, failures_behind, readings_of, GrowsBy}
use Rattle.stores.specs.declared.source.Source.{Ghosts as SourceOf}
use Rattle.stores.specs.declared.source.SourceFault.{SourceFault}

-- `SourceOf S` is what a source of the type S tells of itself; a clause writes it `S.Source`.

-- calls, one behind the other, each for this name and with this answer
pub data Answered {S : Type 0} (s : SourceOf S) : S → S → List Reading → Type 0 where
  no_call : (source : S) → Answered s source source []
  one_more :
      (first middle last : S) (name : List ℕ) (answer : Result (List ℕ) SourceFault)
      (rest : List Reading)
      → s.may_give first name answer middle → Answered s middle last rest
      → Answered s first last ((name, answer) ∷ rest)

-- the failures behind such calls
abbrev pub failures_behind_all : ℕ → List Reading → ℕ
failures_behind_all n readings = fold (λ n reading. failures_behind n reading.1) n readings

-- what is told of such calls
abbrev pub told_of_all : List Reading → List Reading
told_of_all readings = flat_map (λ reading. readings_of reading.0 reading.1) readings

-- The source was asked for these names, in this order, and answered so; each failure is counted,
-- and what it tells is told.
pub record Gave {S : Type 0} (s : SourceOf S) (old new : S) (readings : List Reading) : Type 0 where
  pub answered : Answered s old new readings
  pub counted : s.failures new ≡ failures_behind_all (s.failures old) readings
  pub told : GrowsBy (s.told old) (s.told new) (told_of_all readings)
