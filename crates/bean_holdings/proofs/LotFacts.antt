-- Of what is held the lots alone: after additions and takes, and as they are looked at.
use Rattle.std.proofs.Common.{◌≡◌, ℤ, pos, ◌+ℤ◌, Bool, true, false, ◌&&◌, cond, List, [], ◌∷◌, ◌++◌}
use Rattle.std.proofs.Common.{Option, Some, None, ℕ, refl, sym, ap, ◌∙◌, true≢false}
use Rattle.std.specs.Option.{is_some}
use Rattle.std.specs.Ordering.{int_eq}
use Rattle.std.proofs.lemmas.List.Elements.{filter-append}
use Rattle.std.proofs.lemmas.Map.Views.{any-filter_same}
use Rattle.bean_lots.specs.Inventory.{added, count_of, has_lot, held_as, is_lot_of, is_opposite}
use Rattle.bean_lots.specs.Inventory.{position_of}
use Rattle.bean_lots.specs.Lot.{same_key, same_text}
use Rattle.bean_lots.specs.declared.lot.Key.{Key}
use Rattle.bean_lots.specs.declared.lot.Lot.{Lot}
use Rattle.bean_lots.specs.declared.lot.Position.{Position}
use Rattle.bean_lots.proofs.LotFacts.{same_key_Decides}
use Rattle.bean_reductions.specs.After.{after, has_opposite, is_opposite_lot}
use Rattle.bean_reductions.specs.Candidate.{candidate_of, candidates}
use Rattle.bean_reductions.specs.declared.reduction.Selector.{Selector}
use Rattle.bean_holdings.specs.Held.{lots_in}

abbrev is_lot : Position → Bool
is_lot e = is_some e.key.lot

lots_of_one : (k : Key) (n : ℤ)
    → lots_in (held_as k n) ≡ cond (is_some k.lot) (held_as k n) []
lots_of_one k n = by (int_eq n (pos 0))
  where
    none : (b : Bool) (l : List Position) → l ≡ cond b l l
    none true l = refl
    none false l = refl

    by : (z : Bool)
        → lots_in (cond z [] (position_of k n ∷ []))
        ≡ cond (is_some k.lot) (cond z [] (position_of k n ∷ [])) []
    by true = none (is_some k.lot) []
    by false = refl

lots_behind_one : (k : Key) (n : ℤ) (es : List Position)
    → lots_in (held_as k n ++ es) ≡ cond (is_some k.lot) (held_as k n) [] ++ lots_in es
lots_behind_one k n es =
    filter-append is_lot (held_as k n) es ∙ ap (λ l. l ++ lots_in es) (lots_of_one k n)

-- ---- additions and takes

pub lots_added : (es : List Position) (k : Key) (n : ℤ)
    → lots_in (added es k n) ≡ cond (is_some k.lot) (added (lots_in es) k n) (lots_in es)
lots_added [] k n = lots_of_one k n
lots_added (e ∷ es) k n =
    cut (same_key k e.key)
    ∙ by (same_key k e.key) (is_some k.lot) (is_some e.key.lot) refl
    (λ same. ap (λ (q : Key). is_some q.lot) ((same_key_Decides k e.key).0 same))
    (lots_in (added es k n)) (lots_added es k n)
  where
    m : ℤ
    m = e.count +ℤ n

    cut : (s : Bool)
        → lots_in (cond s (held_as e.key m ++ es) (e ∷ added es k n))
        ≡ cond s (cond (is_some e.key.lot) (held_as e.key m) [] ++ lots_in es)
        (cond (is_some e.key.lot) (e ∷ lots_in (added es k n)) (lots_in (added es k n)))
    cut true = lots_behind_one e.key m es
    cut false = refl

    by : (s b d : Bool) → same_key k e.key ≡ s → (s ≡ true → b ≡ d) → (rest : List Position)
        → rest ≡ cond b (added (lots_in es) k n) (lots_in es)
        → cond s (cond d (held_as e.key m) [] ++ lots_in es) (cond d (e ∷ rest) rest)
        ≡ cond b (added (cond d (e ∷ lots_in es) (lots_in es)) k n)
        (cond d (e ∷ lots_in es) (lots_in es))
    by true true true same alike rest is =
        ap (λ s. cond s (held_as e.key m ++ lots_in es) (e ∷ added (lots_in es) k n)) (sym same)
    by true true false same alike rest is = absurd (true≢false (alike refl))
    by true false true same alike rest is = absurd (true≢false (sym (alike refl)))
    by true false false same alike rest is = refl
    by false true true same alike rest is =
        ap (λ l. e ∷ l) is
        ∙ ap (λ s. cond s (held_as e.key m ++ lots_in es) (e ∷ added (lots_in es) k n)) (sym same)
    by false true false same alike rest is = is
    by false false true same alike rest is = ap (λ l. e ∷ l) is
    by false false false same alike rest is = is

pub lots_after : (es taken : List Position) → after (lots_in es) taken ≡ lots_in (after es taken)
lots_after [] taken = refl
lots_after (e ∷ es) taken =
    by (is_some e.key.lot) (lots_after es taken) ∙ sym (lots_behind_one e.key n (after es taken))
  where
    n : ℤ
    n = e.count +ℤ count_of taken e.key

    by : (b : Bool) → after (lots_in es) taken ≡ lots_in (after es taken)
        → after (cond b (e ∷ lots_in es) (lots_in es)) taken
        ≡ cond b (held_as e.key n) [] ++ lots_in (after es taken)
    by true rest = ap (λ l. held_as e.key n ++ l) rest
    by false rest = rest

-- ---- what looks at lots finds them

second_true : (a b : Bool) → (a && b) ≡ true → b ≡ true
second_true true b h = h
second_true false b h = cc

middle_true : (a b c : Bool) → (a && (b && c)) ≡ true → b ≡ true
middle_true true true c h = refl
middle_true true false c h = cc
middle_true false b c h = cc

pub lot_among_lots : (currency : List ℕ) (es : List Position)
    → has_lot currency (lots_in es) ≡ has_lot currency es
lot_among_lots currency es =
    any-filter_same (is_lot_of currency) is_lot true
    (λ e. second_true (same_text e.key.currency currency) (is_some e.key.lot)) es

pub opposite_among_lots : (currency : List ℕ) (want : ℤ) (es : List Position)
    → has_opposite currency want (lots_in es) ≡ has_opposite currency want es
opposite_among_lots currency want es =
    any-filter_same (λ (e : Position). is_opposite_lot currency want e.key e.count) is_lot true
    (λ e.
    middle_true (same_text e.key.currency currency) (is_some e.key.lot) (is_opposite want e.count))
    es

pub candidates_among_lots : (s : Selector) (want : ℤ) (es : List Position)
    → candidates s want (lots_in es) ≡ candidates s want es
candidates_among_lots s want [] = refl
candidates_among_lots s want (e ∷ es) = by e.key.lot refl (candidates_among_lots s want es)
  where
    of : Option Lot → List (Lot × ℕ)
    of lot = candidate_of s want e.key.currency lot e.count

    by : (lot : Option Lot) → e.key.lot ≡ lot
        → candidates s want (lots_in es) ≡ candidates s want es
        → candidates s want (cond (is_some lot) (e ∷ lots_in es) (lots_in es))
        ≡ of lot ++ candidates s want es
    by None is rest = rest
    by (Some lot) is rest = ap (λ l. of e.key.lot ++ l) rest ∙ ap (λ o. of o ++ candidates s want es) is
