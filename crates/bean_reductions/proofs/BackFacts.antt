-- The last of the candidates that come to the want, with all others of their days, are as good as
-- all of them under LIFO.
use Rattle.std.proofs.Common.{◌≡◌, ◌<◌, ◌≤◌, ◌<ℤ◌, inl, inr, ℕ, ℤ, Bool, true, false, cond, List, []}
use Rattle.std.proofs.Common.{◌∷◌, ◌++◌, length, sum_by, Result, refl, sym, ◌∙◌, ap, subst, arith}
use Rattle.std.specs.List.{AllByRecursion}
use Rattle.std.specs.Int.RustNames.{unsigned_abs}
use Rattle.std.specs.Ordering.{int_cmp, is_lt}
use Rattle.std.specs.declared.vec.Vec.{Vec}
use Rattle.std.specs.declared.alloc.Global.{Global}
use Rattle.std.proofs.lemmas.Int.{ints}
use Rattle.std.proofs.lemmas.List.{append-nil}
use Rattle.std.proofs.lemmas.List.Sorted.{ranks_by}
use Rattle.theory.specs.Arrangement.{arranged_by, by_key, put_by}
use Rattle.theory.proofs.ArrangedFacts.{is_arranged}
use Rattle.bean_base.specs.declared.num.Num.{Num}
use Rattle.bean_lots.specs.declared.lot.Lot.{Lot}
use Rattle.bean_reductions.specs.Back.{AreEarlier, IsBack}
use Rattle.bean_reductions.specs.Candidate.{IsHeld}
use Rattle.bean_reductions.specs.Reduction.{IsReduction, Reduces}
use Rattle.bean_reductions.specs.Take.{IsQueue, day_of, order_of, units_of}
use Rattle.refusals.specs.declared.refusal.Refusal.{Refusal}
use Rattle.bean_reductions.specs.declared.cause.LotCause.{LotCause}
use Rattle.bean_reductions.specs.declared.reduction.Method.TheVariants.{Strict, Lifo}
use Rattle.bean_reductions.proofs.EnoughFacts.{longer, of_enough}
use Rattle.bean_reductions.proofs.InTurn.{TakesInTurn}
use Rattle.bean_reductions.proofs.ReductionFacts.{one_queue, open_orders}
use Rattle.bean_reductions.proofs.SumFacts.{sum_arranged}
use Rattle.bean_reductions.proofs.TakeFacts.{to_first, to_takes}

-- whether a candidate is taken before another
abbrev pub before : Lot × ℕ → Lot × ℕ → Bool
before = by_key day_of (order_of Lifo)

-- the order in which candidates are taken
abbrev pub queue_of : List (Lot × ℕ) → List (Lot × ℕ)
queue_of cs = arranged_by before cs

pub is_queue : (cs : List (Lot × ℕ)) → IsQueue Lifo cs (queue_of cs)
is_queue cs = is_arranged before (ranks_by (open_orders Lifo) day_of) cs

all_put : (P : Lot × ℕ → Type 0) (c : Lot × ℕ) (q : List (Lot × ℕ)) → P c → AllByRecursion P q
    → AllByRecursion P (put_by before c q)
all_put P c [] h a = (h, tt)
all_put P c (d ∷ q) h a = by (before d c) (all_put P c q h a.1)
  where
    by : (b : Bool) → AllByRecursion P (put_by before c q)
        → AllByRecursion P (cond b (d ∷ put_by before c q) (c ∷ d ∷ q))
    by true rest = (a.0, rest)
    by false rest = (h, a)

pub all_queued : (P : Lot × ℕ → Type 0) (cs : List (Lot × ℕ)) → AllByRecursion P cs
    → AllByRecursion P (queue_of cs)
all_queued P [] a = tt
all_queued P (c ∷ cs) a = all_put P c (queue_of cs) a.0 (all_queued P cs a.1)

pub sum_queued : (cs : List (Lot × ℕ)) → sum_by units_of (queue_of cs) ≡ sum_by units_of cs
sum_queued cs = sum_arranged before cs

later : (a b : ℤ) → a <ℤ b → is_lt (int_cmp a b) ≡ true
later a b h = grind (arith, ints)

-- what is of an earlier day than all goes behind them
put_behind : (c : Lot × ℕ) (q r : List (Lot × ℕ))
    → AllByRecursion {X = Lot × ℕ} (λ d. day_of c <ℤ day_of d) q
    → put_by before c (q ++ r) ≡ q ++ put_by before c r
put_behind c [] r a = refl
put_behind c (d ∷ q) r a =
    ap (λ b. cond b (d ∷ put_by before c (q ++ r)) (c ∷ d ∷ q ++ r))
    (later (day_of c) (day_of d) a.0)
    ∙ ap (λ l. d ∷ l) (put_behind c q r a.1)

-- the queue of all: that of the last, then that of the rest
pub queue_of_all : (rest f : List (Lot × ℕ)) → AreEarlier rest f
    → queue_of (rest ++ f) ≡ queue_of f ++ queue_of rest
queue_of_all [] f a = sym (append-nil (queue_of f))
queue_of_all (c ∷ rest) f a =
    ap (put_by before c) (queue_of_all rest f a.1)
    ∙ put_behind c (queue_of f) (queue_of rest)
    (all_queued (λ d. day_of c <ℤ day_of d) f a.0)

reduction : (rest f : List (Lot × ℕ)) (want : ℕ) (ts : List (Lot × ℕ)) → AreEarlier rest f
    → IsReduction Lifo f want ts → IsReduction Lifo (rest ++ f) want ts
reduction rest f want ts a h = record {
  queue = queue_of (rest ++ f);
  arranged = is_queue (rest ++ f);
  taken =
      to_first (queue_of (rest ++ f)) want ts
      (subst (λ q. TakesInTurn q want ts) (sym (queue_of_all rest f a))
      (longer (queue_of f) (queue_of rest) want ts
      (subst (λ q. TakesInTurn q want ts)
      (one_queue Lifo f h.queue (queue_of f) h.arranged (is_queue f))
      (to_takes h.queue want ts h.taken))));
  some = h.some;
  strict = λ e. absurd (not_strict e);
}
  where
    not_strict : Lifo ≡ Strict → ⊥
    not_strict e = cc

pub back_held : (rest f : List (Lot × ℕ)) → AllByRecursion IsHeld (rest ++ f)
    → AllByRecursion IsHeld f
back_held [] f a = a
back_held (c ∷ rest) f a = back_held rest f a.1

pub back_some : (rest f : List (Lot × ℕ)) → 0 < length f → 0 < length (rest ++ f)
back_some [] f p = p
back_some (c ∷ rest) f p = omega arith

enough : (rest f : List (Lot × ℕ)) (want : ℤ) (a : Result (Vec (Lot × Num) Global) (Refusal LotCause))
    → AreEarlier rest f → AllByRecursion IsHeld (rest ++ f)
    → (0 < length (rest ++ f) → 0 < unsigned_abs want) → unsigned_abs want ≤ sum_by units_of f
    → Reduces Lifo f want a → Reduces Lifo (rest ++ f) want a
enough rest f want a earlier held wanted le h =
    of_enough Lifo f (rest ++ f) (queue_of f) want a not_strict (is_queue f)
    (λ ts. reduction rest f (unsigned_abs want) ts earlier)
    (all_queued IsHeld f (back_held rest f held)) (sum_queued f) le (λ p. back_some rest f p)
    wanted h
  where
    not_strict : Lifo ≡ Strict → ⊥
    not_strict e = cc

pub of_back : (f cs : List (Lot × ℕ)) (want : ℤ) (a : Result (Vec (Lot × Num) Global) (Refusal LotCause))
    → IsBack (unsigned_abs want) f cs → AllByRecursion IsHeld cs
    → (0 < length cs → 0 < unsigned_abs want) → Reduces Lifo f want a → Reduces Lifo cs want a
of_back f cs want a back held wanted h =
    elim back.enough as (λ _. Reduces Lifo cs want a) [
      | inl none ↦
          subst (λ l. Reduces Lifo l want a) (ap (λ r. r ++ f) (sym none) ∙ sym back.all) h
      | inr some ↦
          subst (λ l. Reduces Lifo l want a) (sym back.all)
          (enough back.rest f want a some.1
          (subst (AllByRecursion IsHeld) back.all held)
          (subst (λ l. 0 < length l → 0 < unsigned_abs want) back.all wanted) some.0 h)
    ]
