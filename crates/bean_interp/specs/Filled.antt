-- What is filled in, as legs of its own.
use Rattle.std.specs.Prelude.{◌≡◌, List, [], ◌∷◌}
use Rattle.bean_interp.specs.declared.fill.Fill.{Fill}
use Rattle.bean_interp.specs.declared.leg.Leg.{Leg}
use Rattle.bean_interp.specs.declared.leg.Leg.TheVariants.{Whole, MissingNumber, MissingAmount}
use Rattle.bean_interp.specs.declared.leg.Worth.TheVariants.{Units}

-- its units are the amount, which is worth itself and has no written decimals
abbrev pub IsOfFill : Fill → Leg → Type 0
IsOfFill f (Whole w) = (w.units ≡ f.amount) × (w.worth ≡ Units) × (w.decimals ≡ 0)
IsOfFill f (MissingNumber c) = ⊥
IsOfFill f MissingAmount = ⊥

abbrev pub AreOfFills : List Fill → List Leg → Type 0
AreOfFills [] [] = Unit {0}
AreOfFills [] (leg ∷ legs) = ⊥
AreOfFills (f ∷ fs) [] = ⊥
AreOfFills (f ∷ fs) (leg ∷ legs) = IsOfFill f leg × AreOfFills fs legs
