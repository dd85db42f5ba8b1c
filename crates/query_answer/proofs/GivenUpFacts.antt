-- Rows that are given up.
use Rattle.std.proofs.Common.{◌≡◌, ℕ, zero, suc, ◌+◌, ◌-◌, ◌<◌, ◌≤◌, List, [], ◌∷◌, ◌++◌, drop}
use Rattle.std.proofs.Common.{get_or, length, map, min, take, refl, sym, ap, ap₂, ◌∙◌, arith, inl, inr}
use Rattle.std.proofs.lemmas.Bool.{cases_lt}
use Rattle.std.proofs.lemmas.List.{drop-take, drop_all, length-drop, length-map}
use Rattle.std.proofs.lemmas.List.{length-take, take_all}
use Rattle.std.proofs.lemmas.Slice.{between-put_mid, between_is}
use borrow.Rule.Slice.PartMut.{put_mid}
use Rattle.query_answer.proofs.MovedFacts.{all_behind}
use Rattle.query_answer.proofs.SpanFacts.{lies_at, same_before}
use Rattle.query_answer.specs.Rows.{given_up, nulls}
use Rattle.query_answer.specs.Spans.{IsSameAround, LieApart, rows_in, values_in}
use Rattle.query_answer.specs.declared.rows.Span.{Span}
use Rattle.query_values.specs.declared.value.Value.{Value}
use Rattle.query_values.specs.declared.value.Value.TheVariants.{Null}

-- ---- a span of nulls

pub span_cleared : (s : Span) (old ys : List Value) → s.start ≤ s.end → s.end ≤ length old
    → ys ≡ nulls (values_in old s)
    → values_in (put_mid s.start (s.end - s.start) old ys) s ≡ nulls (values_in old s)
span_cleared s old ys up inside are =
    sym (drop-take s.start (s.end - s.start) new)
    ∙ ap (λ n. drop s.start (take n new)) (sym split)
    ∙ sym (between_is new s.start s.end)
    ∙ between-put_mid s.start (s.end - s.start) old ys s.end (omega (arith, up, inside)) long
    ∙ are
  where
    new : List Value
    new = put_mid s.start (s.end - s.start) old ys

    split : s.end ≡ s.start + (s.end - s.start)
    split = omega (arith, up)

    long : length ys ≡ s.end - s.start
    long =
        let dropped = length-drop s.start old in
        let taken = length-take (s.end - s.start) (drop s.start old) in
        let count = ap length are ∙ length-map (values_in old s) (λ v. Null) in
        omega (arith, up, inside, dropped, taken, count)

-- ---- so many rows from one on

pub nulls_from : ℕ → ℕ → List (List Value) → List (List Value)
nulls_from zero zero rows = rows
nulls_from zero (suc k) [] = []
nulls_from zero (suc k) (row ∷ rows) = nulls row ∷ nulls_from zero k rows
nulls_from (suc n) k [] = []
nulls_from (suc n) k (row ∷ rows) = row ∷ nulls_from n k rows

from_first : (k : ℕ) (rows : List (List Value))
    → nulls_from zero k rows ≡ map nulls (take k rows) ++ drop k rows
unfolding nulls_from
from_first zero rows = refl
from_first (suc k) [] = refl
from_first (suc k) (row ∷ rows) = ap (λ l. nulls row ∷ l) (from_first k rows)

are_given_up : (n k : ℕ) (rows : List (List Value))
    → nulls_from n k rows ≡ take n rows ++ map nulls (take k (drop n rows)) ++ drop k (drop n rows)
unfolding nulls_from
are_given_up zero k rows = from_first k rows
are_given_up (suc n) zero [] = refl
are_given_up (suc n) (suc k) [] = refl
are_given_up (suc n) k (row ∷ rows) = ap (λ l. row ∷ l) (are_given_up n k rows)

-- none yet
pub none_given_up : (n : ℕ) (rows : List (List Value)) → rows ≡ nulls_from n zero rows
unfolding nulls_from
none_given_up zero rows = refl
none_given_up (suc n) [] = refl
none_given_up (suc n) (row ∷ rows) = ap (λ l. row ∷ l) (none_given_up n rows)

-- one more
first_more : (k : ℕ) (rows : List (List Value)) → k < length rows
    → nulls_from k (suc zero) (nulls_from zero k rows) ≡ nulls_from zero (suc k) rows
unfolding nulls_from
first_more k [] more = absurd (omega (arith, more))
first_more zero (row ∷ rows) more = refl
first_more (suc k) (row ∷ rows) more = ap (λ l. nulls row ∷ l) (first_more k rows (omega (arith, more)))

pub one_more : (first k n : ℕ) (rows : List (List Value)) → n ≡ first + k → n < length rows
    → nulls_from n (suc zero) (nulls_from first k rows) ≡ nulls_from first (suc k) rows
unfolding nulls_from
one_more first k n [] is more = absurd (omega (arith, more))
one_more zero k n (row ∷ rows) is more =
    ap (λ m. nulls_from m (suc zero) (nulls_from zero k (row ∷ rows))) here
    ∙ first_more k (row ∷ rows) (omega (arith, is, more))
  where
    here : n ≡ k
    here = omega (arith, is)
one_more (suc first) k zero (row ∷ rows) is more = absurd (omega (arith, is))
one_more (suc first) k (suc n) (row ∷ rows) is more =
    ap (λ l. row ∷ l) (one_more first k n rows (omega (arith, is)) (omega (arith, more)))

-- all, or all that there are
pub all_given_up : (first k end : ℕ) (rows : List (List Value)) → k ≤ end - first
    → min end (length rows) ≤ first + k → nulls_from first k rows ≡ given_up first end rows
all_given_up first k end rows few all =
    are_given_up first k rows
    ∙ elim (cases_lt (length rows) end) [
      | inl less ↦
          ap₂ (λ part rest. take first rows ++ map nulls part ++ rest)
          (take_all k (drop first rows) (short k (omega (arith, less, all)))
          ∙ sym (take_all (end - first) (drop first rows) (short (end - first) (omega (arith, less)))))
          (drop_all k (drop first rows) (short k (omega (arith, less, all)))
          ∙ sym (drop_all (end - first) (drop first rows) (short (end - first) (omega (arith, less)))))
      | inr past ↦
          ap (λ n. take first rows ++ map nulls (take n (drop first rows)) ++ drop n (drop first rows))
          (same (omega (arith, past, all)))
    ]
  where
    short : (n : ℕ) → length rows ≤ first + n → length (drop first rows) ≤ n
    short n within = let left = length-drop first rows in omega (arith, left, within)

    same : end ≤ first + k → k ≡ end - first
    same far = omega (arith, far, few)

-- ---- rows of which one was given up

pub row_given_up : (from count : ℕ) (vs ws : List Value) (ss : List Span) (n : ℕ) (d : Span)
    → LieApart from count ss → n < length ss → IsSameAround (get_or ss n d) vs ws
    → values_in ws (get_or ss n d) ≡ nulls (values_in vs (get_or ss n d))
    → rows_in ws ss ≡ nulls_from n (suc zero) (rows_in vs ss)
unfolding nulls_from
row_given_up from count vs ws [] n d apart within same cleared = absurd (omega (arith, within))
row_given_up from count vs ws (s ∷ ss) zero d (begins, ends, rest) within same cleared =
    ap₂ (λ x l. x ∷ l) cleared (all_behind s.end s.end count vs ws ss rest (omega arith) same.back)
row_given_up from count vs ws (s ∷ ss) (suc n) d (begins, ends, rest) within same cleared =
    ap₂ (λ x l. x ∷ l)
    (same_before ws vs s.start s.end (get_or ss n d).start ends
    (lies_at s.end count ss n d (omega (arith, within)) rest).begins same.front)
    (row_given_up s.end count vs ws ss n d rest (omega (arith, within)) same cleared)

-- ---- what is left of rows of which some are given up

-- as many
first_count : (k : ℕ) (rows : List (List Value)) → length (nulls_from zero k rows) ≡ length rows
unfolding nulls_from
first_count zero rows = refl
first_count (suc k) [] = refl
first_count (suc k) (row ∷ rows) = ap suc (first_count k rows)

count_from : (n k : ℕ) (rows : List (List Value)) → length (nulls_from n k rows) ≡ length rows
unfolding nulls_from
count_from zero k rows = first_count k rows
count_from (suc n) k [] = refl
count_from (suc n) k (row ∷ rows) = ap suc (count_from n k rows)

pub count_given_up : (first end : ℕ) (rows : List (List Value))
    → length (given_up first end rows) ≡ length rows
count_given_up first end rows =
    ap length (sym (are_given_up first (end - first) rows)) ∙ count_from first (end - first) rows

-- the same behind them
first_behind : (k : ℕ) (rows : List (List Value)) → drop k (nulls_from zero k rows) ≡ drop k rows
unfolding nulls_from
first_behind zero rows = refl
first_behind (suc k) [] = refl
first_behind (suc k) (row ∷ rows) = first_behind k rows

behind_from : (n k m : ℕ) (rows : List (List Value)) → m ≡ n + k
    → drop m (nulls_from n k rows) ≡ drop m rows
unfolding nulls_from
behind_from zero k m rows is =
    ap (λ j. drop j (nulls_from zero k rows)) here ∙ first_behind k rows
    ∙ ap (λ j. drop j rows) (sym here)
  where
    here : m ≡ k
    here = omega (arith, is)
behind_from (suc n) k m [] is = refl
behind_from (suc n) k zero (row ∷ rows) is = absurd (omega (arith, is))
behind_from (suc n) k (suc m) (row ∷ rows) is = behind_from n k m rows (omega (arith, is))

pub behind_given_up : (first end : ℕ) (rows : List (List Value)) → first ≤ end
    → drop end (given_up first end rows) ≡ drop end rows
behind_given_up first end rows up =
    ap (drop end) (sym (are_given_up first (end - first) rows))
    ∙ behind_from first (end - first) end rows (omega (arith, up))
