-- A front of the candidates that comes to the want is as good as all of them, where their days
-- never go down; under STRICT so is one of several that come to more.
use Rattle.std.proofs.Common.{◌≡◌, ◌<◌, ◌≤◌, ◌≤ℤ◌, inl, inr, ℕ, zero, suc, ℤ, Bool, true}
use Rattle.std.proofs.Common.{false, cond, ◌&&◌, List, [], ◌∷◌, ◌++◌, length, sum_by, get_or}
use Rattle.std.proofs.Common.{Option, Some}
use Rattle.std.proofs.Common.{None, Result, ◌+ℤ◌, refl, sym, ◌∙◌, ap, subst, arith}
use Rattle.std.proofs.Common.{add-one}
use Rattle.std.specs.List.{AllByRecursion}
use Rattle.std.specs.Int.RustNames.{unsigned_abs}
use Rattle.std.specs.Ordering.{int_cmp, is_lt}
use Rattle.std.specs.declared.vec.Vec.{Vec}
use Rattle.std.specs.declared.alloc.Global.{Global}
use Rattle.std.proofs.lemmas.Int.{ints}
use Rattle.std.proofs.lemmas.List.{append-nil}
use Rattle.bean_base.specs.Day.{number}
use Rattle.bean_base.specs.declared.num.Num.{Num}
use Rattle.bean_reductions.specs.After.{after}
use Rattle.bean_lots.specs.Inventory.{is_opposite}
use Rattle.bean_reductions.specs.Candidate.{IsHeld, agrees, candidate_of, candidates}
use Rattle.bean_inventories.specs.Days.{IsNotBefore, RiseInDays}
use Rattle.bean_reductions.specs.Front.{IsFront, IsFrontFor, IsReached}
use Rattle.bean_lots.specs.Inventory.{count_of}
use Rattle.bean_lots.specs.Lot.{same_text}
use Rattle.bean_reductions.specs.Reduction.{IsReduction, Reduces}
use Rattle.bean_reductions.specs.Take.{IsQueue, day_of, units_of}
use Rattle.bean_lots.specs.declared.lot.Lot.{Lot}
use Rattle.bean_lots.specs.declared.lot.Position.{Position}
use Rattle.refusals.specs.declared.refusal.Refusal.{Refusal}
use Rattle.bean_reductions.specs.declared.cause.LotCause.{LotCause}
use Rattle.bean_reductions.specs.declared.reduction.Method.{Method}
use Rattle.bean_reductions.specs.declared.reduction.Method.TheVariants.{Strict, Fifo}
use Rattle.bean_reductions.specs.declared.reduction.Selector.{Selector}
use Rattle.bean_reductions.specs.declared.reduction.front.Front.{Front}
use Rattle.bean_reductions.specs.declared.reduction.front.Front.TheVariants.{All, ToWant, PastWant}
use Rattle.bean_reductions.proofs.AfterFacts.{front}
use Rattle.bean_reductions.proofs.EnoughFacts.{longer, of_enough}
use Rattle.bean_reductions.proofs.InTurn.{TakesInTurn}
use Rattle.bean_reductions.proofs.ReductionFacts.{one_queue}
use Rattle.bean_reductions.proofs.SeveralFacts.{of_several}
use Rattle.bean_reductions.proofs.TakeFacts.{to_first, to_takes}

-- of that day or a later one
abbrev IsFrom : ℤ → Lot × ℕ → Type 0
IsFrom day c = day ≤ℤ day_of c

-- the days never go down
abbrev pub AreByDay : List (Lot × ℕ) → Type 0
AreByDay [] = Unit {0}
AreByDay (c ∷ cs) = AllByRecursion (IsFrom (day_of c)) cs × AreByDay cs

all_behind : (s : Selector) (want : ℤ) (l : Lot) (es taken : List Position)
    → AllByRecursion {X = Position} (λ f. IsNotBefore (Some l) f.key.lot) es
    → AllByRecursion (IsFrom (number l.day)) (candidates s want (after es taken))
all_behind s want l [] taken a = tt
all_behind s want l (e ∷ es) taken a =
    subst (AllByRecursion (IsFrom (number l.day)))
    (sym (front s want e.key (e.count +ℤ count_of taken e.key) (after es taken)))
    (own e.key.currency e.key.lot (e.count +ℤ count_of taken e.key) a.0
    (all_behind s want l es taken a.1))
  where
    own : (currency : List ℕ) (lot : Option Lot) (n : ℤ) → IsNotBefore (Some l) lot
        → AllByRecursion (IsFrom (number l.day)) (candidates s want (after es taken))
        → AllByRecursion (IsFrom (number l.day))
        (candidate_of s want currency lot n ++ candidates s want (after es taken))
    own currency None n b rest = rest
    own currency (Some m) n b rest =
        by (same_text currency s.currency && agrees s m && is_opposite want n)
      where
        by : (t : Bool)
            → AllByRecursion (IsFrom (number l.day))
            (cond t ((m, unsigned_abs n) ∷ []) [] ++ candidates s want (after es taken))
        by true = (b, rest)
        by false = rest

-- where lots stand in the order of their days, candidates do
pub by_day : (s : Selector) (want : ℤ) (es taken : List Position) → RiseInDays es
    → AreByDay (candidates s want (after es taken))
by_day s want [] taken a = tt
by_day s want (e ∷ es) taken a =
    subst AreByDay
    (sym (front s want e.key (e.count +ℤ count_of taken e.key) (after es taken)))
    (own e.key.currency e.key.lot (e.count +ℤ count_of taken e.key) a.0
    (by_day s want es taken a.1))
  where
    own : (currency : List ℕ) (lot : Option Lot) (n : ℤ)
        → AllByRecursion {X = Position} (λ f. IsNotBefore lot f.key.lot) es
        → AreByDay (candidates s want (after es taken))
        → AreByDay (candidate_of s want currency lot n ++ candidates s want (after es taken))
    own currency None n b rest = rest
    own currency (Some m) n b rest =
        by (same_text currency s.currency && agrees s m && is_opposite want n)
      where
        by : (t : Bool)
            → AreByDay (cond t ((m, unsigned_abs n) ∷ []) [] ++ candidates s want (after es taken))
        by true = (all_behind s want m es taken b, rest)
        by false = rest

not_less : (a b : ℤ) → a ≤ℤ b → is_lt (int_cmp b a) ≡ false
not_less a b h = grind (arith, ints)

sorted : (cs : List (Lot × ℕ)) → AreByDay cs → (k : ℕ) (d : Lot × ℕ) → suc k < length cs
    → is_lt (int_cmp (day_of (get_or cs (suc k) d)) (day_of (get_or cs k d))) ≡ false
sorted [] a k d below = absurd (omega (arith, below))
sorted (c ∷ []) a k d below = absurd (omega (arith, below))
sorted (c ∷ e ∷ cs) a zero d below = not_less (day_of c) (day_of e) a.0.0
sorted (c ∷ e ∷ cs) a (suc k) d below = sorted (e ∷ cs) a.1 k d (omega (arith, below))

-- candidates by day are their own queue
pub own_queue : (cs : List (Lot × ℕ)) → AreByDay cs → IsQueue Fifo cs cs
own_queue cs a = record {
  sorted = λ k d low below. rw add-one (sorted cs a k d (omega (arith, below)));
  stable = λ x. refl;
}

front_by_day : (f r : List (Lot × ℕ)) → AreByDay (f ++ r) → AreByDay f
front_by_day [] r a = tt
front_by_day (c ∷ f) r a = (some f r a.0, front_by_day f r a.1)
  where
    some : (f r : List (Lot × ℕ)) → AllByRecursion (IsFrom (day_of c)) (f ++ r)
        → AllByRecursion (IsFrom (day_of c)) f
    some [] r a = tt
    some (x ∷ f) r a = (a.0, some f r a.1)

pub front_held : (f r : List (Lot × ℕ)) → AllByRecursion IsHeld (f ++ r) → AllByRecursion IsHeld f
front_held [] r a = tt
front_held (c ∷ f) r a = (a.0, front_held f r a.1)

pub front_some : (f r : List (Lot × ℕ)) → 0 < length f → 0 < length (f ++ r)
front_some [] r p = absurd (omega (arith, p))
front_some (c ∷ f) r p = omega arith

-- the reduction of a front is that of all
reduction : (f r : List (Lot × ℕ)) (want : ℕ) (ts : List (Lot × ℕ)) → AreByDay (f ++ r)
    → IsReduction Fifo f want ts → IsReduction Fifo (f ++ r) want ts
reduction f r want ts a h = record {
  queue = f ++ r;
  arranged = own_queue (f ++ r) a;
  taken =
      to_first (f ++ r) want ts
      (longer f r want ts
      (subst (λ q. TakesInTurn q want ts)
      (one_queue Fifo f h.queue f h.arranged (own_queue f (front_by_day f r a)))
      (to_takes h.queue want ts h.taken)));
  some = h.some;
  strict = λ e. absurd (not_strict e);
}
  where
    not_strict : Fifo ≡ Strict → ⊥
    not_strict e = cc

enough : (f r : List (Lot × ℕ)) (want : ℤ) (a : Result (Vec (Lot × Num) Global) (Refusal LotCause))
    → AreByDay (f ++ r) → AllByRecursion IsHeld (f ++ r)
    → (0 < length (f ++ r) → 0 < unsigned_abs want) → unsigned_abs want ≤ sum_by units_of f
    → Reduces Fifo f want a → Reduces Fifo (f ++ r) want a
enough f r want a days held wanted le h =
    of_enough Fifo f (f ++ r) f want a not_strict (own_queue f (front_by_day f r days))
    (λ ts. reduction f r (unsigned_abs want) ts days) (front_held f r held) refl
    le (λ p. front_some f r p) wanted h
  where
    not_strict : Fifo ≡ Strict → ⊥
    not_strict e = cc

-- so many candidates are enough, of more units too
pub reached_by : (front : Front) (w want n lots units sum : ℕ) → w ≡ want → n ≡ lots → units ≤ sum
    → IsReached front w n units → IsReached front want lots sum
reached_by All w want n lots units sum e k le is = is
reached_by ToWant w want n lots units sum e k le is = omega (arith, e, le, is)
reached_by PastWant w want n lots units sum e k le is =
    (omega (arith, k, is.0), omega (arith, e, le, is.1))

-- what a front settles by the candidates
abbrev pub Settles : Front → Method → List (Lot × ℕ) → Type 0
Settles All m cs = Unit {0}
Settles ToWant m cs = (m ≡ Fifo) × AreByDay cs
Settles PastWant m cs = m ≡ Strict

pub settles : (front : Front) (m : Method) (s : Selector) (want : ℤ) (es taken : List Position)
    → IsFrontFor front m es → Settles front m (candidates s want (after es taken))
settles All m s want es taken h = tt
settles ToWant m s want es taken h = (h.0, by_day s want es taken h.1)
settles PastWant m s want es taken h = h

reached : (front : Front) (m : Method) (f r : List (Lot × ℕ)) (want : ℤ)
    (a : Result (Vec (Lot × Num) Global) (Refusal LotCause))
    → IsReached front (unsigned_abs want) (length f) (sum_by units_of f) → Settles front m (f ++ r)
    → AllByRecursion IsHeld (f ++ r) → (0 < length (f ++ r) → 0 < unsigned_abs want)
    → Reduces m f want a → Reduces m (f ++ r) want a
reached All m f r want a is settled held wanted h = absurd is
reached ToWant m f r want a is settled held wanted h =
    subst (λ m. Reduces m (f ++ r) want a) (sym settled.0)
    (enough f r want a settled.1 held wanted is
    (subst (λ m. Reduces m f want a) settled.0 h))
reached PastWant m f r want a is settled held wanted h =
    subst (λ m. Reduces m (f ++ r) want a) (sym settled)
    (of_several f r want a is.0 is.1 (subst (λ m. Reduces m f want a) settled h))

pub of_all : (m : Method) (front : Front) (f cs : List (Lot × ℕ)) (want : ℤ)
    (a : Result (Vec (Lot × Num) Global) (Refusal LotCause)) → IsFront front (unsigned_abs want) f cs
    → Settles front m cs → AllByRecursion IsHeld cs
    → (0 < length cs → 0 < unsigned_abs want) → Reduces m f want a → Reduces m cs want a
of_all m front f cs want a is settled held wanted h =
    elim is.enough as (λ _. Reduces m cs want a) [
      | inl none ↦
          subst (λ l. Reduces m l want a)
          (sym (append-nil f) ∙ ap (λ r. f ++ r) (sym none) ∙ sym is.all) h
      | inr some ↦
          subst (λ l. Reduces m l want a) (sym is.all)
          (reached front m f is.rest want a some (subst (Settles front m) is.all settled)
          (subst (AllByRecursion IsHeld) is.all held)
          (subst (λ l. 0 < length l → 0 < unsigned_abs want) is.all wanted) h)
    ]
