-- What is held, without what at both ends is known to be taken whole.
use Rattle.std.specs.Prelude.{◌≡◌, pos, ◌+ℤ◌, List, ◌++◌}
use Rattle.std.specs.List.{AllByRecursion}
use Rattle.bean_lots.specs.Inventory.{count_of}
use Rattle.bean_lots.specs.declared.lot.Position.{Position}

-- nothing is left of it
abbrev pub IsGone : List Position → Position → Type 0
IsGone taken e = e.count +ℤ count_of taken e.key ≡ pos 0

abbrev pub AreGone : List Position → List Position → Type 0
AreGone taken es = AllByRecursion (IsGone taken) es

-- of what stands before the rest and behind it nothing is left
pub record HasAllLeft (taken rest held : List Position) : Type 0 where
  pub before : List Position
  pub behind : List Position
  pub all : held ≡ before ++ (rest ++ behind)
  pub none_before : AreGone taken before
  pub none_behind : AreGone taken behind
