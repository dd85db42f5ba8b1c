-- What is left of an inventory, one entry after the other.
use Rattle.std.proofs.Common.{◌≡◌, ℕ, ◌≤◌, ◌^◌, ℤ, pos, ◌+ℤ◌, Bool, true, false}
use Rattle.std.proofs.Common.{cond}
use Rattle.std.proofs.Common.{◌&&◌, List, [], ◌∷◌, ◌++◌, append_assoc}
use Rattle.std.proofs.Common.{Option, Some, None, refl, sym, ap, ◌∙◌, arith, subst, sum_by, ◌+◌, ◌-◌}
use Rattle.std.proofs.lemmas.List.Sums.{sum_by-append}
use Rattle.bean_reductions.specs.Take.{units_of}
use Rattle.std.specs.Int.{w128}
use Rattle.std.specs.Int.RustNames.{unsigned_abs, FitsSigned}
use Rattle.std.specs.Ordering.{int_eq}
use Rattle.std.proofs.lemmas.Int.{ints}
use Rattle.bean_reductions.specs.After.{after}
use Rattle.bean_reductions.specs.After.{AreSmall}
use Rattle.bean_lots.specs.Inventory.{is_opposite}
use Rattle.bean_reductions.specs.Candidate.{agrees, candidate_of, candidates}
use Rattle.bean_lots.specs.Inventory.{count_of, held_as}
use Rattle.bean_lots.specs.Lot.{same_key, same_text}
use Rattle.bean_lots.specs.declared.lot.Key.{Key}
use Rattle.bean_lots.specs.declared.lot.Lot.{Lot}
use Rattle.bean_lots.specs.declared.lot.Position.{Position}
use Rattle.bean_reductions.specs.declared.reduction.Selector.{Selector}

none_opposite : (want n : ℤ) → int_eq n (pos 0) ≡ true → is_opposite want n ≡ false
none_opposite want n h = grind (arith, ints)

never : (a b c : Bool) → c ≡ false → (a && b && c) ≡ false
never true true c h = h
never true false c h = refl
never false b c h = refl

none_of_zero : (s : Selector) (want : ℤ) (currency : List ℕ) (lot : Option Lot) (n : ℤ)
    → int_eq n (pos 0) ≡ true → candidate_of s want currency lot n ≡ []
none_of_zero s want currency None n h = refl
none_of_zero s want currency (Some lot) n h =
    ap (λ b. cond b ((lot, unsigned_abs n) ∷ []) [])
    (never (same_text currency s.currency) (agrees s lot) (is_opposite want n)
    (none_opposite want n h))

pub front : (s : Selector) (want : ℤ) (k : Key) (n : ℤ) (rest : List Position)
    → candidates s want (held_as k n ++ rest)
    ≡ candidate_of s want k.currency k.lot n ++ candidates s want rest
front s want k n rest = by (int_eq n (pos 0)) refl
  where
    by : (b : Bool) → int_eq n (pos 0) ≡ b
        → candidates s want (cond b [] (record { key = k; count = n } ∷ []) ++ rest)
        ≡ candidate_of s want k.currency k.lot n ++ candidates s want rest
    by true e =
        ap (λ l. l ++ candidates s want rest)
        (sym (none_of_zero s want k.currency k.lot n e))
    by false e = refl

-- the candidates so far and those of the rest
pub step : (s : Selector) (want : ℤ) (es rest taken : List Position) (e : Position)
    (found more : List (Lot × ℕ)) → es ≡ e ∷ rest
    → more
    ≡ found
    ++ candidate_of s want e.key.currency e.key.lot (e.count +ℤ count_of taken e.key)
    → more ++ candidates s want (after rest taken) ≡ found ++ candidates s want (after es taken)
step s want es rest taken e found more is m =
    let n = e.count +ℤ count_of taken e.key in
    let own = candidate_of s want e.key.currency e.key.lot n in
    let others = candidates s want (after rest taken) in
    ap (λ l. l ++ others) m ∙ append_assoc found own others
    ∙ ap (λ l. found ++ l)
    (sym (front s want e.key n (after rest taken))
    ∙ sym (ap (λ l. candidates s want (after l taken)) is))

one_small : (n : ℕ) (a c : ℤ) (b : Bool) → unsigned_abs a ≤ n → unsigned_abs c ≤ n
    → unsigned_abs (cond b a c) ≤ n
one_small n a c true h k = h
one_small n a c false h k = k

pub count_small : (n : ℕ) (es : List Position) (k : Key) → AreSmall n es
    → unsigned_abs (count_of es k) ≤ n
count_small n [] k h = omega (arith, ints)
count_small n (e ∷ es) k h =
    one_small n e.count (count_of es k) (same_key k e.key) h.0 (count_small n es k h.1)

pub sum_fits : (a b : ℤ) → unsigned_abs a ≤ 2 ^ 125 → unsigned_abs b ≤ 2 ^ 125
    → FitsSigned w128 (a +ℤ b)
sum_fits a b h k = grind (arith, ints)

pub fits_next : (es rest taken : List Position) (e : Position) → es ≡ e ∷ rest
    → AreSmall (2 ^ 125) es → AreSmall (2 ^ 125) taken
    → FitsSigned w128 (e.count +ℤ count_of taken e.key)
fits_next es rest taken e is small own =
    sum_fits e.count (count_of taken e.key) (subst (AreSmall (2 ^ 125)) is small).0
    (count_small (2 ^ 125) taken e.key own)

pub small_rest : (n : ℕ) (es rest : List Position) (e : Position) → es ≡ e ∷ rest → AreSmall n es
    → AreSmall n rest
small_rest n es rest e is small = (subst (AreSmall n) is small).1

pub next_candidate : (s : Selector) (want : ℤ) (es rest : List Position) (e : Position)
    (found more : List (Lot × ℕ)) → es ≡ e ∷ rest
    → more ≡ found ++ candidate_of s want e.key.currency e.key.lot e.count
    → more ++ candidates s want rest ≡ found ++ candidates s want es
next_candidate s want es rest e found more is m =
    let own = candidate_of s want e.key.currency e.key.lot e.count in
    ap (λ l. l ++ candidates s want rest) m ∙ append_assoc found own (candidates s want rest)
    ∙ ap (λ l. found ++ l) (sym (ap (candidates s want) is))

-- what is missing once some more are found
pub missing_after : (want : ℕ) (found more own : List (Lot × ℕ)) (before units after : ℕ)
    → more ≡ found ++ own → units ≡ sum_by units_of own → before ≡ want - sum_by units_of found
    → after ≡ before - units → after ≡ want - sum_by units_of more
missing_after want found more own before units after e u b a =
    let all = ap (sum_by units_of) e ∙ sum_by-append units_of found own in
    omega (arith, all, u, b, a)

-- what is found once some more are
pub units_after : (found more own : List (Lot × ℕ)) (before units after : ℕ)
    → more ≡ found ++ own → units ≡ sum_by units_of own → before ≤ sum_by units_of found
    → after ≤ before + units → after ≤ sum_by units_of more
units_after found more own before units after e u b a =
    let all = ap (sum_by units_of) e ∙ sum_by-append units_of found own in
    omega (arith, all, u, b, a)
