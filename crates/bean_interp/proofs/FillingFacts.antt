-- Gaps that are filled one after the other.
use Rattle.std.proofs.Common.{◌≡◌, ◌≢◌, ◌+◌, ◌<◌, ℕ, suc, ℤ, pos, Bool, true, false, not, cond}
use Rattle.std.proofs.Common.{drop, List, [], ◌∷◌, ◌++◌, map, filter, take, get_or, length, Err}
use Rattle.std.proofs.Common.{refl, sym, ap, ◌∙◌, subst, append_assoc, arith}
use Rattle.std.proofs.Math.Seq.{split_at, take-suc}
use Rattle.std.proofs.lemmas.List.Elements.{filter-append}
use Rattle.std.proofs.lemmas.List.{append-nil, map-append}
use Rattle.std.specs.Ordering.{int_eq}
use Rattle.std.specs.Bool.{Decides}
use Rattle.std.proofs.lemmas.Bool.Decides.{Decides-int_eq}
use Rattle.std.proofs.Math.ListN.{get_or-map}
use Rattle.bean_interp.specs.Sums.{table}
use Rattle.bean_interp.specs.Residual.{Weighed, lacks_in, residual, weighed}
use Rattle.std.specs.List.{AllByRecursion}
use Rattle.bean_interp.specs.Completion.{Fills, gap_of}
use Rattle.bean_interp.specs.Filling.{AreFilled, HaveNumbers, all_currencies, currency_at, gaps_in}
use Rattle.bean_interp.specs.Scales.{GivesFill, HasNoFill, IsFill}
use Rattle.refusals.specs.declared.refusal.Refusal.{Refusal}
use Rattle.bean_interp.specs.declared.cause.WeighCause.{WeighCause}
use Rattle.bean_interp.specs.declared.cause.WeighCause.TheVariants.{TooWide}
use Rattle.refusals.specs.declared.refusal.Refusal.TheVariants.{OutOfMemory, Refused}
use Rattle.bean_interp.specs.declared.fill.Fill.{Fill}
use Rattle.bean_interp.specs.declared.leg.Leg.{Leg}

abbrev pub AreDue : List Leg → List Fill → Type 0
AreDue legs fills = AllByRecursion (λ f. Fills legs f.amount.currency f.amount.number) fills

pub nothing : (legs : List Leg) (fills : List Fill) → AreFilled legs [] fills fills
nothing legs fills =
    record { added = []; is = sym (append-nil fills); gaps_are = refl; are_due = tt }

pub one : (legs : List Leg) (leg : ℕ) (c : List ℕ) (f : Fill) (old new : List Fill)
    → IsFill legs leg c f → new ≡ old ++ f ∷ [] → AreFilled legs ((leg, c) ∷ []) old new
one legs leg c f old new fill is = record {
  added = f ∷ [];
  is = is;
  gaps_are = λ i. (fill.leg_is i, fill.currency_is i) ∷ [];
  are_due = (subst (λ k. Fills legs k f.amount.number) (sym fill.currency_is) fill.fills, tt);
}

due_both : (legs : List Leg) (xs ys : List Fill) → AreDue legs xs → AreDue legs ys
    → AreDue legs (xs ++ ys)
due_both legs [] ys xs-due ys-due = ys-due
due_both legs (x ∷ xs) ys xs-due ys-due = (xs-due.0, due_both legs xs ys xs-due.1 ys-due)

pub joined : (legs : List Leg) (gs hs : List (ℕ × List ℕ)) (a b c : List Fill)
    → AreFilled legs gs a b → AreFilled legs hs b c → AreFilled legs (gs ++ hs) a c
joined legs gs hs a b c first second = record {
  added = first.added ++ second.added;
  is = second.is ∙ ap (λ xs. xs ++ second.added) first.is ∙ append_assoc a first.added second.added;
  gaps_are =
      map-append gap_of first.added second.added ∙ (λ i. first.gaps_are i ++ second.gaps_are i);
  are_due = due_both legs first.added second.added first.are_due second.are_due;
}

-- the cause of a refusal
pub no_fill : (legs : List Leg) (leg : ℕ) (c : List ℕ) (fault : Refusal WeighCause)
    → GivesFill legs leg c (Err fault) → HasNoFill legs c
no_fill legs leg c (Refused TooWide) gives = gives
no_fill legs leg c OutOfMemory gives = absurd gives

-- ---- gaps with numbers

numbers_front : (legs : List Leg) (gs after : List (ℕ × List ℕ)) → HaveNumbers legs (gs ++ after)
    → HaveNumbers legs gs
numbers_front legs [] after all = tt
numbers_front legs (g ∷ gs) after all = (all.0, numbers_front legs gs after all.1)

pub numbers_between : (legs : List Leg) (before gs after : List (ℕ × List ℕ))
    → HaveNumbers legs (before ++ (gs ++ after)) → HaveNumbers legs gs
numbers_between legs [] gs after all = numbers_front legs gs after all
numbers_between legs (b ∷ before) gs after all = numbers_between legs before gs after all.1

-- ---- the currencies that lack something

gaps_append : (legs : List Leg) (leg : ℕ) (cs ds : List (List ℕ))
    → gaps_in legs leg (cs ++ ds) ≡ gaps_in legs leg cs ++ gaps_in legs leg ds
gaps_append legs leg cs ds =
    ap (map (λ d. (leg, d))) (filter-append (lacks_in legs) cs ds)
    ∙ map-append (λ d. (leg, d)) (filter (lacks_in legs) cs) (filter (lacks_in legs) ds)

pub gaps_next : (legs : List Leg) (leg : ℕ) (cs : List (List ℕ)) (i : ℕ) (d : List ℕ)
    → i < length cs
    → gaps_in legs leg (take (i + 1) cs)
    ≡ gaps_in legs leg (take i cs) ++ gaps_in legs leg (get_or cs i d ∷ [])
gaps_next legs leg cs i d lt =
    let succ : i + 1 ≡ suc i = omega arith in
    ap (gaps_in legs leg) (ap (λ n. take n cs) succ ∙ take-suc cs i d lt)
    ∙ gaps_append legs leg (take i cs) (get_or cs i d ∷ [])

pub gap_here : (legs : List Leg) (leg : ℕ) (c : List ℕ) → int_eq (residual legs c) (pos 0) ≡ false
    → gaps_in legs leg (c ∷ []) ≡ (leg, c) ∷ []
gap_here legs leg c lacks = λ i. map (λ d. (leg, d)) (cond (not (lacks i)) (c ∷ []) [])

pub no_gap_here : (legs : List Leg) (leg : ℕ) (c : List ℕ) → int_eq (residual legs c) (pos 0) ≡ true
    → gaps_in legs leg (c ∷ []) ≡ []
no_gap_here legs leg c even = λ i. map (λ d. (leg, d)) (cond (not (even i)) (c ∷ []) [])

-- a gap without a number among those of all currencies
pub without_number : (legs : List Leg) (leg : ℕ) (cs : List (List ℕ)) (i : ℕ) (d : List ℕ)
    → i < length cs
    → ¬ HaveNumbers legs (gaps_in legs leg (get_or cs i d ∷ []))
    → ¬ HaveNumbers legs (gaps_in legs leg cs)
without_number legs leg cs i d lt none all =
    none (numbers_between legs (gaps_in legs leg (take i cs))
    (gaps_in legs leg (get_or cs i d ∷ [])) (gaps_in legs leg (drop (suc i) cs))
    (subst (HaveNumbers legs) gaps all))
  where
    gaps : gaps_in legs leg cs
        ≡ gaps_in legs leg (take i cs)
        ++ (gaps_in legs leg (get_or cs i d ∷ []) ++ gaps_in legs leg (drop (suc i) cs))
    gaps = ap (gaps_in legs leg) (split_at cs i d lt)
        ∙ gaps_append legs leg (take i cs) (get_or cs i d ∷ drop (suc i) cs)
        ∙ ap (λ gs. gaps_in legs leg (take i cs) ++ gs)
        (gaps_append legs leg (get_or cs i d ∷ []) (drop (suc i) cs))

-- ---- the currency at an index, with its sum

pub currency_there : (es : List Weighed) (legs : List Leg) (i : ℕ) (d : List ℕ)
    → es ≡ table (weighed legs)
    → get_or es i (d, residual legs d)
    ≡ (currency_at legs i d, residual legs (currency_at legs i d))
currency_there es legs i d is =
    ap (λ (l : List Weighed). get_or l i (d, residual legs d)) is
    ∙ get_or-map (λ c. (c, residual legs c)) (all_currencies legs) i d

pub unequal : (z : ℤ) → z ≢ pos 0 → int_eq z (pos 0) ≡ false
unequal z h = by (int_eq z (pos 0)) (Decides-int_eq z (pos 0))
  where
    by : (b : Bool) → Decides b (z ≡ pos 0) → b ≡ false
    by true is = absurd (h (is.0 refl))
    by false is = refl

pub no_gap_where : (legs : List Leg) (leg : ℕ) (c : List ℕ) → residual legs c ≡ pos 0
    → gaps_in legs leg (c ∷ []) ≡ []
no_gap_where legs leg c is = no_gap_here legs leg c (ap (λ z. int_eq z (pos 0)) is)

pub gap_where : (legs : List Leg) (leg : ℕ) (c : List ℕ) → residual legs c ≢ pos 0
    → gaps_in legs leg (c ∷ []) ≡ (leg, c) ∷ []
gap_where legs leg c is = gap_here legs leg c (unequal (residual legs c) is)
