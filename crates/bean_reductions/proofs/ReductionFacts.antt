-- What is filled is the one reduction.
use Rattle.std.proofs.Common.{◌≡◌, ◌⊎◌, inl, inr, ℕ, ℤ, ◌<◌, List, [], ◌∷◌, length, sum_by, refl}
use Rattle.std.proofs.Common.{sym, ◌∙◌, ap, arith, Ok, Err}
use Rattle.std.specs.List.{AllByRecursion}
use Rattle.std.specs.Cmp.{IsTotalOrder}
use Rattle.std.proofs.lemmas.Cmp.{back_total, int_cmp_total}
use Rattle.std.specs.Int.RustNames.{unsigned_abs}
use Rattle.bean_lots.specs.declared.lot.Lot.{Lot}
use Rattle.bean_reductions.specs.Take.{IsQueue, AreTakes, units_of, day_of, order_of}
use Rattle.bean_reductions.specs.Filling.{filled, Judges}
use Rattle.bean_reductions.specs.Reduction.{IsReduction, HasNoReduction, Reduces}
use Rattle.bean_reductions.specs.declared.reduction.Method.{Method}
use Rattle.bean_reductions.specs.declared.reduction.Method.TheVariants.{Strict, Fifo, Lifo}
use Rattle.bean_reductions.specs.declared.reduction.Method.TheVariants.{None as method_None}
use Rattle.refusals.specs.declared.refusal.Refusal.{Refusal}
use Rattle.bean_reductions.specs.declared.cause.LotCause.{LotCause}
use Rattle.bean_reductions.specs.declared.cause.LotCause.TheVariants.{NoLotMatches, AmbiguousLots}
use Rattle.bean_reductions.specs.declared.cause.LotCause.TheVariants.{NotEnoughUnits}
use Rattle.refusals.specs.declared.refusal.Refusal.TheVariants.{OutOfMemory, Refused}
use Rattle.bean_reductions.specs.Candidate.{IsHeld}
use Rattle.bean_reductions.proofs.InTurn.{TakesInTurn, taken, only, held, whole}
use Rattle.bean_reductions.proofs.TakeFacts.{to_first, to_takes}
use Rattle.theory.proofs.ArrangementFacts.{one_by_key}

pub open_orders : (m : Method) → IsTotalOrder (order_of m)
open_orders Strict = int_cmp_total
open_orders Fifo = int_cmp_total
open_orders method_None = int_cmp_total
open_orders Lifo = back_total int_cmp_total

-- the candidates have one order
pub one_queue : (m : Method) (cs q r : List (Lot × ℕ)) → IsQueue m cs q → IsQueue m cs r → q ≡ r
one_queue m cs q r h k = one_by_key day_of (order_of m) (open_orders m) cs q r h k

-- there is at most one reduction
pub one : (m : Method) (cs : List (Lot × ℕ)) (want : ℕ) (ts us : List (Lot × ℕ))
    → IsReduction m cs want ts → IsReduction m cs want us → ts ≡ us
one m cs want ts us h k =
    only h.queue want ts (to_takes _ _ _ h.taken)
    ∙ ap (λ q. filled q want) (one_queue m cs h.queue k.queue h.arranged k.arranged)
    ∙ sym (only k.queue want us (to_takes _ _ _ k.taken))

length_takes : (q : List (Lot × ℕ)) (want : ℕ) → 0 < want → (ts : List (Lot × ℕ))
    → TakesInTurn q want ts → 0 < length ts
length_takes q want p [] h = absurd (omega (arith, h))
length_takes q want p (t ∷ ts) h = omega arith

strictly : (q : List (Lot × ℕ)) (want : ℕ) → AllByRecursion IsHeld q
    → (length q ≡ 1) ⊎ (sum_by units_of q ≡ want) → (length q ≡ 1) ⊎ (filled q want ≡ q)
strictly q want h (inl e) = inl e
strictly q want h (inr e) = inr (whole q want h e)

pub made : (m : Method) (cs q : List (Lot × ℕ)) (want : ℕ) → 0 < want → IsQueue m cs q
    → AllByRecursion IsHeld q → Judges m q want (Ok tt) → IsReduction m cs want (filled q want)
made m cs q want p a h j = record {
  queue = q;
  arranged = a;
  taken = to_first q want (filled q want) (taken q want h j.1);
  some = length_takes q want p (filled q want) (taken q want h j.1);
  strict = λ e. strictly q want h (j.2 e);
}

several : (q r : List (Lot × ℕ)) (want : ℕ) (ts : List (Lot × ℕ)) → q ≡ r → 1 < length q
    → ¬ (sum_by units_of q ≡ want) → AreTakes r want ts → (length r ≡ 1) ⊎ (ts ≡ r) → ⊥
several q r want ts e n s h (inl one) = omega (arith, n, one, ap length e)
several q r want ts e n s h (inr all) = s (ap (sum_by units_of) (e ∙ sym all) ∙ h.total)

-- no candidate leaves no queue to take from
no_queue : (m : Method) → IsQueue m [] []
no_queue m = record { sorted = λ k d low below. absurd (omega (arith, below)); stable = λ x. refl }

pub none : (m : Method) (cs : List (Lot × ℕ)) (want : ℕ) → length cs ≡ 0 → HasNoReduction m cs want
none m [] want e ts r =
    omega (
      arith,
      r.some,
      r.taken.few,
      ap length
          (one_queue m [] r.queue [] r.arranged (no_queue m)),
    )
none m (c ∷ cs) want e ts r = omega (arith, e)

pub refused : (m : Method) (cs q : List (Lot × ℕ)) (want : ℤ) (e : Refusal LotCause) → IsQueue m cs q
    → length q ≡ length cs → Judges m q (unsigned_abs want) (Err e) → Reduces m cs want (Err e)
refused m cs q want (Refused NoLotMatches) a l j = let empty = sym l ∙ j in
    (empty, none m cs (unsigned_abs want) empty)
refused m cs q want (Refused AmbiguousLots) a l j = (
  j.0,
  omega (arith, l, j.1),
  λ ts r.
      several q r.queue (unsigned_abs want) ts (one_queue m cs q r.queue a r.arranged) j.1 j.2
      r.taken (r.strict j.0),
)
refused m cs q want (Refused NotEnoughUnits) a l j = (
  omega (arith, l, j.0),
  λ e. sym l ∙ j.1 e,
  λ ts r.
      let same = ap (sum_by units_of) (one_queue m cs q r.queue a r.arranged) in
      omega (arith, same, (held r.queue (unsigned_abs want) ts (to_takes _ _ _ r.taken)).0, j.2),
)
refused m cs q want OutOfMemory a l j = absurd j
