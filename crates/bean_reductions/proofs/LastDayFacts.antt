-- Under LIFO the first candidates of the last day are as good as all, where they come to the want.
use Rattle.std.proofs.Common.{◌≡◌, ◌<◌, ◌≤◌, ◌≤ℤ◌, ◌<ℤ◌, ◌+ℤ◌, ℕ, ℤ, Bool, true, false, cond, ◌&&◌}
use Rattle.std.proofs.Common.{List, [], ◌∷◌, ◌++◌, append_assoc, filter, length, sum_by, Option, Some}
use Rattle.std.proofs.Common.{None, Result, refl, sym, ◌∙◌, ap, subst, arith}
use Rattle.std.specs.List.{AllByRecursion}
use Rattle.std.specs.Int.RustNames.{unsigned_abs}
use Rattle.std.specs.Ordering.{int_cmp, int_eq, is_lt}
use Rattle.std.specs.declared.vec.Vec.{Vec}
use Rattle.std.specs.declared.alloc.Global.{Global}
use Rattle.std.proofs.lemmas.Int.{ints}
use Rattle.std.proofs.lemmas.List.{append-nil}
use Rattle.std.proofs.lemmas.List.Elements.{filter-append}
use Rattle.theory.specs.Arrangement.{put_by}
use Rattle.bean_base.specs.Day.{number}
use Rattle.bean_base.specs.declared.days.Day.{Day}
use Rattle.bean_base.specs.declared.num.Num.{Num}
use Rattle.bean_inventories.specs.Days.{IsNotBefore, RiseInDays, has_day}
use Rattle.bean_lots.specs.Inventory.{count_of, is_opposite}
use Rattle.bean_lots.specs.Lot.{same_text}
use Rattle.bean_lots.specs.declared.lot.Lot.{Lot}
use Rattle.bean_lots.specs.declared.lot.Position.{Position}
use Rattle.bean_reductions.specs.After.{after}
use Rattle.bean_reductions.specs.Back.{AreBy, AreEarlier, IsFirst, IsOfDay}
use Rattle.bean_reductions.specs.Candidate.{IsHeld, candidate_of, candidates, has_cost}
use Rattle.bean_reductions.specs.Candidate.{has_label}
use Rattle.bean_reductions.specs.Reduction.{IsReduction, Reduces}
use Rattle.bean_reductions.specs.Take.{IsQueue, day_of, units_of}
use Rattle.refusals.specs.declared.refusal.Refusal.{Refusal}
use Rattle.bean_reductions.specs.declared.cause.LotCause.{LotCause}
use Rattle.bean_reductions.specs.declared.reduction.Method.TheVariants.{Strict, Lifo}
use Rattle.bean_reductions.specs.declared.reduction.Selector.{Selector}
use Rattle.bean_reductions.proofs.BackFacts.{all_queued, back_held, back_some, before, is_queue}
use Rattle.bean_reductions.proofs.BackFacts.{queue_of, queue_of_all, sum_queued}
use Rattle.bean_reductions.proofs.EnoughFacts.{longer, of_enough}
use Rattle.bean_reductions.proofs.FrontFacts.{AreByDay, front_held, front_some}
use Rattle.bean_reductions.proofs.InTurn.{TakesInTurn}
use Rattle.bean_reductions.proofs.LastFacts.{all_by_last, candidates_by, last_own}
use Rattle.bean_reductions.proofs.ReductionFacts.{one_queue}
use Rattle.bean_reductions.proofs.TakeFacts.{to_first, to_takes}

-- ---- those of one day

abbrev pub is_on : ℤ → Lot × ℕ → Bool
is_on day c = int_eq day (day_of c)

abbrev pub AreOn : ℤ → List (Lot × ℕ) → Type 0
AreOn day cs = AllByRecursion {X = Lot × ℕ} (λ c. day_of c ≡ day) cs

drop : (a b c o : Bool) → (a && (b && false && c) && o) ≡ false
drop false b c o = refl
drop true false c o = refl
drop true true c o = refl

keep : (x : Lot × ℕ) (p : Lot × ℕ → Bool) (z : Bool) → p x ≡ true
    → cond z (x ∷ []) [] ≡ filter p (cond z (x ∷ []) [])
keep x p true h = sym (ap (λ b. cond b (x ∷ []) []) h)
keep x p false h = refl

gone : (x : Lot × ℕ) (p : Lot × ℕ → Bool) (z : Bool) → p x ≡ false
    → [] ≡ filter p (cond z (x ∷ []) [])
gone x p true h = sym (ap (λ b. cond b (x ∷ []) []) h)
gone x p false h = refl

pick : (x : Lot × ℕ) (p : Lot × ℕ → Bool) (a b t c o : Bool) → p x ≡ t
    → cond (a && (b && t && c) && o) (x ∷ []) []
    ≡ filter p (cond (a && (b && true && c) && o) (x ∷ []) [])
pick x p a b true c o h = keep x p (a && (b && true && c) && o) h
pick x p a b false c o h =
    ap (λ z. cond z (x ∷ []) []) (drop a b c o) ∙ gone x p (a && (b && true && c) && o) h

one_on : (s t : Selector) (day : Day) (want : ℤ) (currency : List ℕ) (lot : Option Lot) (n : ℤ)
    → s.day ≡ None → t.currency ≡ s.currency → t.cost ≡ s.cost → t.day ≡ Some day
    → t.label ≡ s.label
    → candidate_of t want currency lot n
    ≡ filter (is_on (number day)) (candidate_of s want currency lot n)
one_on s t day want currency None n any same cost on label = refl
one_on s t day want currency (Some lot) n any same cost on label =
    (λ i. cond (same_text currency (same i)
    && (has_cost (cost i) lot && has_day (on i) lot && has_label (label i) lot)
    && is_opposite want n) ((lot, unsigned_abs n) ∷ []) [])
    ∙ pick (lot, unsigned_abs n) (is_on (number day)) (same_text currency s.currency)
    (has_cost s.cost lot) (has_day (Some day) lot) (has_label s.label lot) (is_opposite want n) refl
    ∙ (λ i. filter (is_on (number day)) (cond (same_text currency s.currency
    && (has_cost s.cost lot && has_day (sym any i) lot && has_label s.label lot)
    && is_opposite want n) ((lot, unsigned_abs n) ∷ []) []))

-- the candidates of a day are those among all
pub narrowed : (s t : Selector) (day : Day) (want : ℤ) (es : List Position)
    → s.day ≡ None → t.currency ≡ s.currency → t.cost ≡ s.cost → t.day ≡ Some day
    → t.label ≡ s.label
    → candidates t want es ≡ filter (is_on (number day)) (candidates s want es)
narrowed s t day want [] any same cost on label = refl
narrowed s t day want (e ∷ es) any same cost on label =
    (λ i. one_on s t day want e.key.currency e.key.lot e.count any same cost on label i
    ++ narrowed s t day want es any same cost on label i)
    ∙ sym (filter-append (is_on (number day))
    (candidate_of s want e.key.currency e.key.lot e.count) (candidates s want es))

-- ---- the last day

-- those of a day stand behind those of earlier days
record Split (day : ℤ) (cs ds : List (Lot × ℕ)) : Type 0 where
  pub rest : List (Lot × ℕ)
  pub all : cs ≡ rest ++ ds
  pub earlier : AreEarlier rest ds
  pub own : AreOn day ds

same_day : (a b d : ℤ) → int_eq d a ≡ true → a ≤ℤ b → b ≤ℤ d → b ≡ d
same_day a b d h p q = grind (arith, ints)

own_day : (a d : ℤ) → int_eq d a ≡ true → a ≡ d
own_day a d h = grind (arith, ints)

is_own : (a d : ℤ) → a ≡ d → int_eq d a ≡ true
is_own a d h = grind (arith, ints)

below : (a b d : ℤ) → int_eq d a ≡ false → a ≤ℤ d → b ≡ d → a <ℤ b
below a b d h p e = grind (arith, ints)

all_on : (a d : ℤ) (cs : List (Lot × ℕ)) → int_eq d a ≡ true
    → AllByRecursion {X = Lot × ℕ} (λ c. a ≤ℤ day_of c) cs → AreBy d cs → AreOn d cs
all_on a d [] h p q = tt
all_on a d (c ∷ cs) h p q = (same_day a (day_of c) d h p.0 q.0, all_on a d cs h p.1 q.1)

kept : (d : ℤ) (cs : List (Lot × ℕ)) → AreOn d cs → filter (is_on d) cs ≡ cs
kept d [] a = refl
kept d (c ∷ cs) a =
    ap (λ b. cond b (c ∷ filter (is_on d) cs) (filter (is_on d) cs)) (is_own (day_of c) d a.0)
    ∙ ap (λ l. c ∷ l) (kept d cs a.1)

all_below : (a d : ℤ) (cs : List (Lot × ℕ)) → int_eq d a ≡ false → a ≤ℤ d → AreOn d cs
    → AllByRecursion {X = Lot × ℕ} (λ c. a <ℤ day_of c) cs
all_below a d [] h p on = tt
all_below a d (c ∷ cs) h p on = (below a (day_of c) d h p on.0, all_below a d cs h p on.1)

split : (d : ℤ) (cs : List (Lot × ℕ)) → AreByDay cs → AreBy d cs
    → Split d cs (filter (is_on d) cs)
split d [] a b = record { rest = []; all = refl; earlier = tt; own = tt }
split d (c ∷ cs) a b = by (is_on d c) refl (split d cs a.1 b.1)
  where
    by : (t : Bool) → is_on d c ≡ t → Split d cs (filter (is_on d) cs)
        → Split d (c ∷ cs) (cond t (c ∷ filter (is_on d) cs) (filter (is_on d) cs))
    by true h r =
        let on = all_on (day_of c) d cs h a.0 b.1 in
        let same = kept d cs on in record {
          rest = [];
          all = ap (λ l. c ∷ l) (sym same);
          earlier = tt;
          own = (own_day (day_of c) d h, subst (AreOn d) (sym same) on);
        }
    by false h r = record {
      rest = c ∷ r.rest;
      all = ap (λ l. c ∷ l) r.all;
      earlier = (all_below (day_of c) d (filter (is_on d) cs) h b.0 r.own, r.earlier);
      own = r.own;
    }

-- the first of those of the last day
pub first_of : (d : ℤ) (w : ℕ) (found more cs ds : List (Lot × ℕ)) → AreByDay cs → AreBy d cs
    → ds ≡ filter (is_on d) cs → ds ≡ found ++ more → w ≤ sum_by units_of found
    → IsFirst w found cs
first_of d w found more cs ds days by_day is front enough =
    let parts = split d cs days by_day in
    let same = sym is ∙ front in record {
      rest = parts.rest;
      more = more;
      day = d;
      all = parts.all ∙ ap (λ l. parts.rest ++ l) same;
      earlier = subst (AreEarlier parts.rest) same parts.earlier;
      own = subst (AreOn d) same parts.own;
      enough = enough;
    }

-- ---- is as good as all

level : (a b d : ℤ) → a ≡ d → b ≡ d → is_lt (int_cmp a b) ≡ false
level a b d p q = grind (arith, ints)

put_first : (d : ℤ) (c : Lot × ℕ) (q : List (Lot × ℕ)) → day_of c ≡ d → AreOn d q
    → put_by before c q ≡ c ∷ q
put_first d c [] p a = refl
put_first d c (x ∷ q) p a =
    ap (λ b. cond b (x ∷ put_by before c q) (c ∷ x ∷ q)) (level (day_of c) (day_of x) d p a.0)

own_queue : (d : ℤ) (cs : List (Lot × ℕ)) → AreOn d cs → queue_of cs ≡ cs
own_queue d [] a = refl
own_queue d (c ∷ cs) a =
    ap (put_by before c) (own_queue d cs a.1) ∙ put_first d c cs a.0 a.1

front_on : (d : ℤ) (found more : List (Lot × ℕ)) → AreOn d (found ++ more) → AreOn d found
front_on d [] more a = tt
front_on d (c ∷ found) more a = (a.0, front_on d found more a.1)

reduction : (d : ℤ) (rest found more : List (Lot × ℕ)) (want : ℕ) (ts : List (Lot × ℕ))
    → AreEarlier rest (found ++ more) → AreOn d (found ++ more)
    → IsReduction Lifo found want ts → IsReduction Lifo (rest ++ (found ++ more)) want ts
reduction d rest found more want ts earlier on h =
    let queue : queue_of (rest ++ (found ++ more)) ≡ found ++ (more ++ queue_of rest) =
    queue_of_all rest (found ++ more) earlier
    ∙ ap (λ l. l ++ queue_of rest) (own_queue d (found ++ more) on)
    ∙ append_assoc found more (queue_of rest) in
    let own : IsQueue Lifo found found =
    subst (IsQueue Lifo found) (own_queue d found (front_on d found more on)) (is_queue found) in
    record {
      queue = queue_of (rest ++ (found ++ more));
      arranged = is_queue (rest ++ (found ++ more));
      taken =
          to_first (queue_of (rest ++ (found ++ more))) want ts
          (subst (λ q. TakesInTurn q want ts) (sym queue)
          (longer found (more ++ queue_of rest) want ts
          (subst (λ q. TakesInTurn q want ts)
          (one_queue Lifo found h.queue found h.arranged own)
          (to_takes h.queue want ts h.taken))));
      some = h.some;
      strict = λ e. absurd (not_strict e);
    }
  where
    not_strict : Lifo ≡ Strict → ⊥
    not_strict e = cc

pub first_held : (want : ℕ) (found cs : List (Lot × ℕ)) → IsFirst want found cs
    → AllByRecursion IsHeld cs → AllByRecursion IsHeld found
first_held want found cs first held =
    front_held found first.more
    (back_held first.rest (found ++ first.more) (subst (AllByRecursion IsHeld) first.all held))

pub first_some : (want : ℕ) (found cs : List (Lot × ℕ)) → IsFirst want found cs
    → 0 < length found → 0 < length cs
first_some want found cs first p =
    subst (λ l. 0 < length l) (sym first.all)
    (back_some first.rest (found ++ first.more) (front_some found first.more p))

pub of_first : (found cs : List (Lot × ℕ)) (want : ℤ)
    (a : Result (Vec (Lot × Num) Global) (Refusal LotCause))
    → IsFirst (unsigned_abs want) found cs → AllByRecursion IsHeld cs
    → (0 < length cs → 0 < unsigned_abs want) → Reduces Lifo found want a → Reduces Lifo cs want a
of_first found cs want a first held wanted h =
    of_enough Lifo found cs (queue_of found) want a not_strict (is_queue found)
    (λ ts r.
    subst (λ l. IsReduction Lifo l (unsigned_abs want) ts) (sym first.all)
    (reduction first.day first.rest found first.more (unsigned_abs want) ts first.earlier first.own
    r))
    (all_queued IsHeld found (first_held (unsigned_abs want) found cs first held))
    (sum_queued found) first.enough (first_some (unsigned_abs want) found cs first) wanted h
  where
    not_strict : Lifo ≡ Strict → ⊥
    not_strict e = cc

-- ---- from the end

-- what isn't a candidate leaves those of the rest
pub passed : (s : Selector) (want : ℤ) (es rest taken : List Position) (e : Position)
    → es ≡ rest ++ e ∷ []
    → candidate_of s want e.key.currency e.key.lot (e.count +ℤ count_of taken e.key) ≡ []
    → candidates s want (after es taken) ≡ candidates s want (after rest taken)
passed s want es rest taken e is none =
    ap (λ l. candidates s want (after l taken)) is ∙ last_own s want rest taken e
    ∙ ap (λ l. candidates s want (after rest taken) ++ l) none
    ∙ append-nil (candidates s want (after rest taken))

-- no candidate is of a later day than the last lot
pub by_last : (s : Selector) (want : ℤ) (es rest taken : List Position) (e : Position) (day : Day)
    → es ≡ rest ++ e ∷ [] → RiseInDays es → IsOfDay day e.key.lot
    → AreBy (number day) (candidates s want (after es taken))
by_last s want es rest taken e day is rise on = by e.key.lot refl on
  where
    by : (lot : Option Lot) → e.key.lot ≡ lot → IsOfDay day lot
        → AreBy (number day) (candidates s want (after es taken))
    by None l on = absurd on
    by (Some lot) l on =
        subst (λ n. AreBy n (candidates s want (after es taken))) on
        (subst (λ l2. AreBy (number lot.day) (candidates s want (after l2 taken))) (sym is)
        (candidates_by s want lot (rest ++ e ∷ []) taken
        (subst (λ (m : Option Lot). AllByRecursion {X = Position} (λ f. IsNotBefore f.key.lot m)
        (rest ++ e ∷ [])) l (all_by_last rest e (subst RiseInDays is rise)))))
