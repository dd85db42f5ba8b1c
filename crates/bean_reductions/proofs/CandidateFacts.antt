-- Of each candidate something is held, and there is none for a want of 0.
use Rattle.std.proofs.Common.{◌≡◌, ℕ, ◌<◌, ℤ, Bool, true, false, cond, ◌&&◌, List, [], ◌∷◌, ◌++◌}
use Rattle.std.proofs.Common.{length, Option, Some, None, refl, subst, arith, Ok, Err}
use Rattle.std.specs.List.{AllByRecursion}
use Rattle.std.specs.List.Sorted.{IsPermutation}
use Rattle.std.specs.Int.RustNames.{unsigned_abs}
use Rattle.std.proofs.lemmas.Int.{ints}
use Rattle.std.proofs.lemmas.List.Sorted.{All-permutation, length_permutation}
use Rattle.std.proofs.lemmas.List.Elements.{All-from_recursion, recursion_from_All}
use Rattle.bean_lots.specs.Lot.{same_text}
use Rattle.bean_lots.specs.declared.lot.Position.{Position}
use Rattle.bean_lots.specs.declared.lot.Lot.{Lot}
use Rattle.bean_reductions.specs.declared.reduction.Selector.{Selector}
use Rattle.bean_lots.specs.Inventory.{is_opposite}
use Rattle.bean_reductions.specs.Candidate.{agrees, candidate_of, candidates}
use Rattle.bean_reductions.specs.Take.{IsQueue}
use Rattle.bean_reductions.specs.Filling.{filled, Judges}
use Rattle.bean_reductions.specs.Reduction.{IsReduction, Reduces}
use Rattle.bean_reductions.specs.declared.reduction.Method.{Method}
use Rattle.refusals.specs.declared.refusal.Refusal.{Refusal}
use Rattle.bean_reductions.specs.declared.cause.LotCause.{LotCause}
use Rattle.bean_reductions.specs.Candidate.{IsHeld}
use Rattle.bean_reductions.proofs.ReductionFacts.{made, refused}

opposite : (want n : ℤ) → is_opposite want n ≡ true → (0 < unsigned_abs n) × (0 < unsigned_abs want)
opposite want n h = grind (arith, ints)

last_true : (a b c : Bool) → (a && b && c) ≡ true → c ≡ true
last_true true true c h = h
last_true true false c h = cc
last_true false b c h = cc

front : (s : Selector) (want : ℤ) (currency : List ℕ) (lot : Option Lot) (n : ℤ)
    (rest : List (Lot × ℕ)) → AllByRecursion IsHeld rest
    → AllByRecursion IsHeld (candidate_of s want currency lot n ++ rest)
front s want currency None n rest h = h
front s want currency (Some lot) n rest h =
    by (same_text currency s.currency && agrees s lot && is_opposite want n) refl
  where
    by : (b : Bool) → (same_text currency s.currency && agrees s lot && is_opposite want n) ≡ b
        → AllByRecursion IsHeld (cond b ((lot, unsigned_abs n) ∷ []) [] ++ rest)
    by true e = (
      (opposite want n
          (last_true (same_text currency s.currency) (agrees s lot) (is_opposite want n) e)).0,
      h,
    )
    by false e = h

pub all_held : (s : Selector) (want : ℤ) (es : List Position)
    → AllByRecursion IsHeld (candidates s want es)
all_held s want [] = tt
all_held s want (e ∷ es) =
    front s want e.key.currency e.key.lot e.count (candidates s want es) (all_held s want es)

first_wanted :
    (s : Selector) (want : ℤ) (currency : List ℕ) (lot : Option Lot) (n : ℤ) (rest : List (Lot × ℕ))
    → (0 < length rest → 0 < unsigned_abs want)
    → 0 < length (candidate_of s want currency lot n ++ rest) → 0 < unsigned_abs want
first_wanted s want currency None n rest h p = h p
first_wanted s want currency (Some lot) n rest h p =
    by (same_text currency s.currency && agrees s lot && is_opposite want n) refl p
  where
    by : (b : Bool) → (same_text currency s.currency && agrees s lot && is_opposite want n) ≡ b
        → 0 < length (cond b ((lot, unsigned_abs n) ∷ []) [] ++ rest) → 0 < unsigned_abs want
    by true e p =
        (opposite want n
        (last_true (same_text currency s.currency) (agrees s lot) (is_opposite want n) e)).1
    by false e p = h p

pub wanted : (s : Selector) (want : ℤ) (es : List Position) → 0 < length (candidates s want es)
    → 0 < unsigned_abs want
wanted s want [] p = absurd (omega (arith, p))
wanted s want (e ∷ es) p =
    first_wanted s want e.key.currency e.key.lot e.count (candidates s want es) (wanted s want es) p

pub queue_held : (cs q : List (Lot × ℕ)) → AllByRecursion IsHeld cs → IsPermutation cs q
    → AllByRecursion IsHeld q
queue_held cs q h p =
    recursion_from_All IsHeld q
    (All-permutation IsHeld cs q p (All-from_recursion IsHeld cs h))

-- with the equations that a call leaves
pub refused_at : (m : Method) (want : ℤ) (cs q r : List (Lot × ℕ)) (n : ℕ) (e : Refusal LotCause)
    → IsQueue m cs q → IsPermutation cs q → r ≡ q → n ≡ unsigned_abs want
    → Judges m r n (Err e) → Reduces m cs want (Err e)
refused_at m want cs q r n e a p i k j =
    refused m cs q want e a (length_permutation cs q p)
    (subst (λ l. Judges m l (unsigned_abs want) (Err e)) i (subst (λ n. Judges m r n (Err e)) k j))

pub made_at : (m : Method) (want : ℤ) (cs q r : List (Lot × ℕ)) (n : ℕ)
    → AllByRecursion IsHeld cs → (0 < length cs → 0 < unsigned_abs want)
    → IsQueue m cs q → IsPermutation cs q → r ≡ q → n ≡ unsigned_abs want
    → Judges m r n (Ok tt)
    → IsReduction m cs (unsigned_abs want) (filled q (unsigned_abs want))
made_at m want cs q r n held some a p i k j =
    let judged =
    subst (λ l. Judges m l (unsigned_abs want) (Ok tt)) i
    (subst (λ n. Judges m r n (Ok tt)) k j) in
    made m cs q (unsigned_abs want) (some (omega (arith, length_permutation cs q p, judged.0))) a
    (queue_held cs q held p) judged
