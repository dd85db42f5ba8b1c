-- What is enough of the candidates is as good as all of them.
use Rattle.std.proofs.Common.{◌≡◌, ◌-◌, ◌<◌, ◌≤◌, ℕ, ℤ, List, [], ◌∷◌, ◌++◌, length, sum_by, Result}
use Rattle.std.proofs.Common.{Ok, Err, arith}
use Rattle.std.specs.List.{AllByRecursion}
use Rattle.std.specs.Int.RustNames.{unsigned_abs}
use Rattle.std.specs.declared.vec.Vec.{Vec}
use Rattle.std.specs.declared.alloc.Global.{Global}
use Rattle.bean_base.specs.declared.num.Num.{Num}
use Rattle.bean_lots.specs.declared.lot.Lot.{Lot}
use Rattle.bean_reductions.specs.Candidate.{IsHeld}
use Rattle.bean_reductions.specs.Filling.{filled}
use Rattle.bean_reductions.specs.Reduction.{IsReduction, Reduces}
use Rattle.bean_reductions.specs.Take.{IsQueue, units_of}
use Rattle.refusals.specs.declared.refusal.Refusal.{Refusal}
use Rattle.bean_reductions.specs.declared.cause.LotCause.{LotCause}
use Rattle.bean_reductions.specs.declared.cause.LotCause.TheVariants.{NoLotMatches, AmbiguousLots}
use Rattle.bean_reductions.specs.declared.cause.LotCause.TheVariants.{NotEnoughUnits}
use Rattle.refusals.specs.declared.refusal.Refusal.TheVariants.{OutOfMemory, Refused}
use Rattle.bean_reductions.specs.declared.reduction.Method.{Method}
use Rattle.bean_reductions.specs.declared.reduction.Method.TheVariants.{Strict}
use Rattle.bean_reductions.proofs.InTurn.{TakesInTurn}
use Rattle.bean_reductions.proofs.ReductionFacts.{made, none as none_at}

pub longer : (q r : List (Lot × ℕ)) (want : ℕ) (ts : List (Lot × ℕ)) → TakesInTurn q want ts
    → TakesInTurn (q ++ r) want ts
longer q r want [] h = h
longer [] r want (t ∷ ts) h = absurd h
longer (c ∷ q) r want (t ∷ ts) h = (h.0, h.1, h.2, h.3, h.4, longer q r (want - t.1) ts h.5)

some_queue : (q : List (Lot × ℕ)) (want : ℕ) → 0 < want → want ≤ sum_by units_of q → 0 < length q
some_queue [] want p le = absurd (omega (arith, p, le))
some_queue (c ∷ q) want p le = omega arith

no_candidates : (cs : List (Lot × ℕ)) (want : ℕ) → want ≤ 0 → (0 < length cs → 0 < want)
    → length cs ≡ 0
no_candidates [] want le w = omega arith
no_candidates (c ∷ cs) want le w = absurd (omega (arith, le, w (omega arith)))

sum_of_none : (f : List (Lot × ℕ)) → length f ≡ 0 → sum_by units_of f ≡ 0
sum_of_none [] e = omega arith
sum_of_none (c ∷ f) e = absurd (omega (arith, e))

-- some candidates f, which come to the want, and whose queue is q
pub of_enough : (m : Method) (f cs q : List (Lot × ℕ)) (want : ℤ)
    (a : Result (Vec (Lot × Num) Global) (Refusal LotCause)) → (m ≡ Strict → ⊥) → IsQueue m f q
    → ((ts : List (Lot × ℕ)) → IsReduction m f (unsigned_abs want) ts
    → IsReduction m cs (unsigned_abs want) ts) → AllByRecursion IsHeld q
    → sum_by units_of q ≡ sum_by units_of f → unsigned_abs want ≤ sum_by units_of f
    → (0 < length f → 0 < length cs)
    → (0 < length cs → 0 < unsigned_abs want) → Reduces m f want a → Reduces m cs want a
of_enough m f cs q want (Ok v) not_strict own all held same le some wanted h =
    (h.0, h.1, all h.0 h.2)
of_enough m f cs q want (Err (Refused NoLotMatches)) not_strict own all held same le some wanted h =
    let zero = sum_of_none f h.0 in
    let none = no_candidates cs (unsigned_abs want) (omega (arith, zero, le)) wanted in
    (none, none_at m cs (unsigned_abs want) none)
of_enough m f cs q want (Err (Refused AmbiguousLots)) not_strict own all held same le some wanted h =
    absurd (not_strict h.0)
of_enough m f cs q want (Err (Refused NotEnoughUnits)) not_strict own all held same le some wanted h =
    let p = wanted (some h.0) in
    let below : unsigned_abs want ≤ sum_by units_of q = omega (arith, le, same) in
    absurd
    (h.2 (filled q (unsigned_abs want))
    (made m f q (unsigned_abs want) p own held
    (some_queue q (unsigned_abs want) p below, below, λ e. absurd (not_strict e))))
of_enough m f cs q want (Err OutOfMemory) not_strict own all held same le some wanted h = tt
