-- Several candidates that come to more than the want are ambiguous under STRICT, whatever others
-- there are.
use Rattle.std.proofs.Common.{◌≡◌, ◌<◌, ◌⊎◌, inl, inr, ℕ, ℤ, List, ◌++◌, length, sum_by, ap, arith}
use Rattle.std.proofs.Common.{Result, Ok, Err}
use Rattle.std.specs.Int.RustNames.{unsigned_abs}
use Rattle.std.specs.declared.vec.Vec.{Vec}
use Rattle.std.specs.declared.alloc.Global.{Global}
use Rattle.std.proofs.lemmas.List.{length-append}
use Rattle.std.proofs.lemmas.List.Sums.{sum_by-append}
use Rattle.bean_base.specs.declared.num.Num.{Num}
use Rattle.bean_lots.specs.declared.lot.Lot.{Lot}
use Rattle.bean_reductions.specs.Reduction.{IsReduction, Reduces}
use Rattle.bean_reductions.specs.Take.{units_of}
use Rattle.refusals.specs.declared.refusal.Refusal.{Refusal}
use Rattle.refusals.specs.declared.refusal.Refusal.TheVariants.{OutOfMemory, Refused}
use Rattle.bean_reductions.specs.declared.cause.LotCause.{LotCause}
use Rattle.bean_reductions.specs.declared.cause.LotCause.TheVariants.{NoLotMatches, AmbiguousLots}
use Rattle.bean_reductions.specs.declared.cause.LotCause.TheVariants.{NotEnoughUnits}
use Rattle.bean_reductions.specs.declared.reduction.Method.TheVariants.{Strict}
use Rattle.bean_reductions.proofs.SumFacts.{queue_length, queue_sum}

too_much : (q ts : List (Lot × ℕ)) (want : ℕ) → 1 < length q → want < sum_by units_of q
    → sum_by units_of ts ≡ want → (length q ≡ 1) ⊎ (ts ≡ q) → ⊥
too_much q ts want several more total (inl one) = omega (arith, several, one)
too_much q ts want several more total (inr whole) =
    let same = ap (sum_by units_of) whole in
    omega (arith, more, total, same)

no_reduction : (cs ts : List (Lot × ℕ)) (want : ℕ) → 1 < length cs → want < sum_by units_of cs
    → IsReduction Strict cs want ts → ⊥
no_reduction cs ts want several more h =
    let as_many = queue_length Strict cs h.queue h.arranged in
    let as_much = queue_sum Strict cs h.queue h.arranged in
    too_much h.queue ts want (omega (arith, as_many, several)) (omega (arith, as_much, more))
    h.taken.total (h.strict (λ i. Strict))

pub of_several : (f r : List (Lot × ℕ)) (want : ℤ)
    (a : Result (Vec (Lot × Num) Global) (Refusal LotCause)) → 1 < length f
    → unsigned_abs want < sum_by units_of f → Reduces Strict f want a
    → Reduces Strict (f ++ r) want a
of_several f r want (Ok v) several more h =
    absurd (no_reduction f h.0 (unsigned_abs want) several more h.2)
of_several f r want (Err (Refused NoLotMatches)) several more h = absurd (omega (arith, several, h.0))
of_several f r want (Err (Refused AmbiguousLots)) several more h =
    let as_many = length-append f r in
    let as_much = sum_by-append units_of f r in
    let lots : 1 < length (f ++ r) = omega (arith, several, as_many) in
    let units : unsigned_abs want < sum_by units_of (f ++ r) = omega (arith, more, as_much) in
    (h.0, lots, λ ts. no_reduction (f ++ r) ts (unsigned_abs want) lots units)
of_several f r want (Err (Refused NotEnoughUnits)) several more h =
    absurd (omega (arith, several, h.1 (λ i. Strict)))
of_several f r want (Err OutOfMemory) several more h = tt
