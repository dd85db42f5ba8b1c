-- Directives are in order by their turns as they are by day, rank and place.
use Rattle.std.proofs.Common.{◌≡◌, ℕ, ℤ, ◌+ℤ◌, ◌*ℤ◌, ◌<ℤ◌, ◌<◌, pos, Bool}
use Rattle.std.proofs.Common.{◌≤◌, ◌++◌, drop, length, take, List, [], ◌∷◌, filter, refl, sym, ◌∙◌, ap, subst, arith}
use Rattle.std.proofs.lemmas.Int.{ints}
use Rattle.std.proofs.lemmas.List.{append-nil, drop_all, take_all}
use Rattle.std.proofs.lemmas.Cmp.{int_cmp_total, nat_cmp_total, on_total, then_total}
use Rattle.std.specs.Cmp.{IsTotalOrder, int_cmp_is, int_ranks, ranks}
use Rattle.std.specs.List.Sorted.{IsSortedBy, IsStableBy, ties}
use Rattle.std.specs.Ordering.{MatchOrdering, int_cmp, is_lt, nat_cmp, ordering_then}
use Rattle.std.specs.declared.cmp.Ordering.{Ordering}
use Rattle.std.specs.declared.cmp.Ordering.TheVariants.{Less, Equal, Greater}
use Rattle.bean_base.specs.Day.{number}
use Rattle.bean_directives.specs.declared.directive.Directive.{Directive}
use Rattle.bean_load.specs.Order.{AreInOrder, DayKey, Key, key_cmp, key_of, turn_of}
use Rattle.bean_load.specs.Rank.{rank_number, rank_of}
use Rattle.bean_loaded.specs.declared.placed.Placed.{Placed}
use Rattle.bean_load.specs.declared.rank.Rank.{Rank}
use Rattle.bean_load.specs.declared.rank.Rank.TheVariants.{Open, Balance, Other, Document, Close}
use Rattle.theory.specs.Arrangement.{IsArrangement, by_key}

-- ---- a list whose items are lent, and come back as they were

pub come_back : {X : Type 0} (xs ys : List X) (count : ℕ) → ys ≡ xs → length xs ≤ count
    → take count (ys ++ drop (length ys) xs) ≡ xs
come_back xs ys count same all =
    ap (λ l. take count (l ++ drop (length l) xs)) same
    ∙ ap (λ l. take count (xs ++ l)) (drop_all (length xs) xs (omega arith))
    ∙ ap (take count) (append-nil xs) ∙ take_all count xs all

-- ---- two tests that answer alike arrange alike

kept_alike : {X : Type 0} (p q : X → Bool) → ((x : X) → p x ≡ q x) → (xs : List X)
    → filter p xs ≡ filter q xs
kept_alike p q same [] = refl
kept_alike p q same (x ∷ xs) = rw (same x, kept_alike p q same xs) refl

arranged_alike : {X : Type 0} (before other : X → X → Bool)
    → ((x y : X) → before x y ≡ other x y) → (xs ys : List X)
    → IsSortedBy before ys → IsStableBy before xs ys → IsArrangement other xs ys
arranged_alike {X} before other same xs ys sorted stable = record {
  sorted = λ k d low below. sym (same _ _) ∙ sorted k d low below;
  stable = λ x. sym (kept_alike (ties before x) (ties other x) (tie x) ys) ∙ stable x
      ∙ kept_alike (ties before x) (ties other x) (tie x) xs;
}
  where
    tie : (x y : X) → ties before x y ≡ ties other x y
    tie x y = rw (same x y, same y x) refl

-- ---- a day and a rank are one number

small : (r : Rank) → rank_number r < 8
small Open = omega arith
small Balance = omega arith
small Other = omega arith
small Document = omega arith
small Close = omega arith

turn : ℤ → ℕ → ℤ
turn a r = (a *ℤ pos 8) +ℤ pos r

-- how turns stand, as an order of them tells
Stand : ℤ → ℤ → ℕ → ℕ → Ordering → Type 0
Stand a b r s o = MatchOrdering o (turn a r <ℤ turn b s) (turn a r ≡ turn b s) (turn b s <ℤ turn a r)

of_one_day : (a b : ℤ) (r s : ℕ) (o : Ordering) → a ≡ b → MatchOrdering o (r < s) (r ≡ s) (s < r)
    → Stand a b r s o
unfolding turn Stand
of_one_day a b r s Less e h = omega (arith, ints, h, e)
of_one_day a b r s Equal e h = omega (arith, ints, h, e)
of_one_day a b r s Greater e h = omega (arith, ints, h, e)

of_days : (a b : ℤ) (r s : ℕ) (o : Ordering) → r < 8 → s < 8
    → MatchOrdering o (a <ℤ b) (a ≡ b) (b <ℤ a) → Stand a b r s (ordering_then o (nat_cmp r s))
unfolding turn Stand
of_days a b r s Less few less h = omega (arith, ints, h, few, less)
of_days a b r s Equal few less h = of_one_day a b r s (nat_cmp r s) h (ranks r s)
of_days a b r s Greater few less h = omega (arith, ints, h, few, less)

turns : (a b : ℤ) (r s : ℕ) → r < 8 → s < 8
    → ordering_then (int_cmp a b) (nat_cmp r s) ≡ int_cmp (turn a r) (turn b s)
unfolding Stand
turns a b r s few less = int_cmp_is (turn a r) (turn b s) (ordering_then (int_cmp a b) (nat_cmp r s))
    (of_days a b r s (int_cmp a b) few less (int_ranks a b))

abbrev pub turn_cmp : ℤ × ℕ → ℤ × ℕ → Ordering
turn_cmp a b = ordering_then (int_cmp a.0 b.0) (nat_cmp a.1 b.1)

-- directives stand by their turns as by their keys
pub keys_are_turns : (x y : Placed Directive)
    → turn_cmp (turn_of x) (turn_of y) ≡ key_cmp (key_of x) (key_of y)
unfolding turn
keys_are_turns x y =
    let r = rank_of x.item.kind in
    let s = rank_of y.item.kind in
    ap (λ o. ordering_then o (nat_cmp x.part y.part))
    (sym (turns (number x.item.day) (number y.item.day) (rank_number r) (rank_number s) (small r)
    (small s)))

turns_are_alike : (x y : Placed Directive)
    → by_key turn_of turn_cmp x y ≡ by_key key_of key_cmp x y
turns_are_alike x y = ap is_lt (keys_are_turns x y)

pub in_order_by_turns : (xs ys zs : List (Placed Directive))
    → IsSortedBy (by_key turn_of turn_cmp) ys → IsStableBy (by_key turn_of turn_cmp) xs ys
    → xs ≡ zs → AreInOrder zs ys
in_order_by_turns xs ys zs sorted stable same =
    subst (λ l. AreInOrder l ys) same
    (arranged_alike (by_key turn_of turn_cmp) (by_key key_of key_cmp) turns_are_alike xs ys sorted
    stable)

-- ---- keys are in order

pub key_total : IsTotalOrder key_cmp
key_total =
    then_total
    (on_total (λ (a : Key). a.0)
    (then_total (on_total (λ (a : DayKey). a.0) int_cmp_total)
    (on_total (λ (a : DayKey). a.1) nat_cmp_total)))
    (on_total (λ (a : Key). a.1) nat_cmp_total)
