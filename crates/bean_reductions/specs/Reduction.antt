-- Reductions, and what keeps one from being made.
use Rattle.std.specs.Prelude.{◌≡◌, ◌<◌, ◌⊎◌, ℕ, ℤ, List, length, map, Result, Ok, Err}
use Rattle.std.specs.Int.RustNames.{unsigned_abs}
use Rattle.std.specs.declared.vec.Vec.{Vec}
use Rattle.std.specs.declared.alloc.Global.{Global}
use Rattle.bean_base.specs.declared.num.Num.{Num}
use Rattle.bean_lots.specs.declared.lot.Lot.{Lot}
use Rattle.bean_reductions.specs.Take.{IsQueue, AreTakes, signed_takes, take_counts}
use Rattle.bean_reductions.specs.declared.reduction.Method.{Method}
use Rattle.bean_reductions.specs.declared.reduction.Method.TheVariants.{Strict}
use Rattle.refusals.specs.declared.refusal.Refusal.{Refusal}
use Rattle.bean_reductions.specs.declared.cause.LotCause.{LotCause}
use Rattle.bean_reductions.specs.declared.cause.LotCause.TheVariants.{NoLotMatches, AmbiguousLots}
use Rattle.bean_reductions.specs.declared.cause.LotCause.TheVariants.{NotEnoughUnits}
use Rattle.refusals.specs.declared.refusal.Refusal.TheVariants.{OutOfMemory, Refused}

-- one or more takes of the candidates cs in their order; under STRICT there is one candidate, or
-- all are exhausted
pub record IsReduction (m : Method) (cs : List (Lot × ℕ)) (want : ℕ) (ts : List (Lot × ℕ)) :
    Type 0 where
  pub queue : List (Lot × ℕ)
  pub arranged : IsQueue m cs queue
  pub taken : AreTakes queue want ts
  pub some : 0 < length ts
  pub strict : m ≡ Strict → (length queue ≡ 1) ⊎ (ts ≡ queue)

abbrev pub HasNoReduction : Method → List (Lot × ℕ) → ℕ → Type 0
HasNoReduction m cs want = (ts : List (Lot × ℕ)) → ¬ IsReduction m cs want ts

-- the reduction; where there is none: no candidate, or else several under STRICT, or else too few
-- units
abbrev pub Reduces : Method → List (Lot × ℕ) → ℤ → Result (Vec (Lot × Num) Global) (Refusal LotCause) → Type 0
Reduces m cs want (Ok v) =
    (ts : List (Lot × ℕ)) × (map take_counts v.items ≡ signed_takes want ts)
    × IsReduction m cs (unsigned_abs want) ts
Reduces m cs want (Err (Refused NoLotMatches)) = (length cs ≡ 0) × HasNoReduction m cs (unsigned_abs want)
Reduces m cs want (Err (Refused AmbiguousLots)) =
    (m ≡ Strict) × (1 < length cs) × HasNoReduction m cs (unsigned_abs want)
Reduces m cs want (Err (Refused NotEnoughUnits)) =
    (0 < length cs) × (m ≡ Strict → length cs ≡ 1) × HasNoReduction m cs (unsigned_abs want)
Reduces m cs want (Err OutOfMemory) = Unit {0}
