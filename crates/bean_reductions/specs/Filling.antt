-- How takes are found: one candidate after the other, until the want is met.
use Rattle.std.specs.Prelude.{◌≡◌, ◌-◌, ◌≤◌, ◌<◌, ◌⊎◌, ◌==◌, ℕ, List, [], ◌∷◌, min, length, sum_by}
use Rattle.std.specs.Prelude.{if◌then◌else◌, Result, Ok, Err}
use Rattle.bean_lots.specs.declared.lot.Lot.{Lot}
use Rattle.bean_reductions.specs.Take.{units_of}
use Rattle.bean_reductions.specs.declared.reduction.Method.{Method}
use Rattle.bean_reductions.specs.declared.reduction.Method.TheVariants.{Strict}
use Rattle.refusals.specs.declared.refusal.Refusal.{Refusal}
use Rattle.bean_reductions.specs.declared.cause.LotCause.{LotCause}
use Rattle.bean_reductions.specs.declared.cause.LotCause.TheVariants.{NoLotMatches, AmbiguousLots}
use Rattle.bean_reductions.specs.declared.cause.LotCause.TheVariants.{NotEnoughUnits}
use Rattle.refusals.specs.declared.refusal.Refusal.TheVariants.{OutOfMemory, Refused}

abbrev pub filled : List (Lot × ℕ) → ℕ → List (Lot × ℕ)
filled [] want = []
filled (c ∷ q) want = if want == 0 then [] else (c.0, min c.1 want) ∷ filled q (want - c.1)

-- whether a queue can be taken from, or why it can't
abbrev pub Judges : Method → List (Lot × ℕ) → ℕ → Result (Unit {0}) (Refusal LotCause) → Type 0
Judges m q want (Ok x) =
    (0 < length q) × (want ≤ sum_by units_of q)
    × (m ≡ Strict → (length q ≡ 1) ⊎ (sum_by units_of q ≡ want))
Judges m q want (Err (Refused NoLotMatches)) = length q ≡ 0
Judges m q want (Err (Refused AmbiguousLots)) = (m ≡ Strict) × (1 < length q) × ¬ (sum_by units_of q ≡ want)
Judges m q want (Err (Refused NotEnoughUnits)) =
    (0 < length q) × (m ≡ Strict → length q ≡ 1) × (sum_by units_of q < want)
Judges m q want (Err OutOfMemory) = ⊥
