-- Numbers of rows: in order, picked, and the rows that they have.
use Rattle.std.proofs.Common.{◌≡◌, ◌≢◌, ℕ, zero, suc, ◌+◌, ◌-◌, ◌<◌, ◌≤◌, ◌||◌, nat_lt, Bool, true, false, cond}
use Rattle.std.proofs.Common.{List, [], ◌∷◌, ◌++◌, filter, length, take, drop, refl, sym, ap, ap₂, subst, ◌∙◌}
use Rattle.std.proofs.Common.{arith, Option, Some, None}
use Rattle.std.proofs.lemmas.Bool.Decides.{nat_tests}
use Rattle.std.proofs.lemmas.List.{map-append, take_rest}
use Rattle.std.proofs.lemmas.List.Elements.{filter-append}
use Rattle.std.proofs.lemmas.List.Sorted.{ranks_by, IsStrictWeakOrder-flip}
use Rattle.std.proofs.lemmas.Simd.{pick_l-range_with_len, pick_l_whole}
use Rattle.std.specs.Cmp.{IsStrictWeakOrder}
use Rattle.std.specs.Cmp.Lexicographic.{lists_total}
use Rattle.std.specs.List.{AllByRecursion, range_with_len}
use Rattle.query_answer.specs.Rows.{ArePicked, row_at}
use Rattle.query_values.proofs.OrderFacts.{values_total}
use Rattle.query_values.specs.declared.value.Value.{Value}
use Rattle.theory.proofs.ArrangedFacts.{is_arranged}
use Rattle.theory.proofs.ArrangementFacts.{one_arrangement}
use Rattle.theory.specs.Arrangement.{IsArrangement, arranged_by, put_by}
use Rattle.final_rows.proofs.OrderFacts.{arranged_seen, goes_in_order}
use Rattle.final_rows.specs.Numbers.{by_number, numbers_limited, numbers_of, rows_at}
use Rattle.final_rows.specs.Order.{goes_before, ranks_in}

-- ---- numbers that are picked

all_put : (before : ℕ → ℕ → Bool) (m n : ℕ) (ns : List ℕ) → m ≢ n → AllByRecursion (λ k. m ≢ k) ns
    → AllByRecursion (λ k. m ≢ k) (put_by before n ns)
all_put before m n [] other all = (other, tt)
all_put before m n (k ∷ ns) other all =
    by (before k n) (all_put before m n ns other all.1)
  where
    by : (b : Bool) → AllByRecursion (λ k. m ≢ k) (put_by before n ns)
        → AllByRecursion (λ k. m ≢ k) (cond b (k ∷ put_by before n ns) (n ∷ k ∷ ns))
    by true rest = (all.0, rest)
    by false rest = (other, all)

all_arranged : (before : ℕ → ℕ → Bool) (m : ℕ) (ns : List ℕ) → AllByRecursion (λ k. m ≢ k) ns
    → AllByRecursion (λ k. m ≢ k) (arranged_by before ns)
all_arranged before m [] all = tt
all_arranged before m (n ∷ ns) all =
    all_put before m n (arranged_by before ns) all.0 (all_arranged before m ns all.1)

module _ (count : ℕ) where
  picked_put : (before : ℕ → ℕ → Bool) (n : ℕ) (ns : List ℕ) → n < count
      → AllByRecursion (λ m. n ≢ m) ns → ArePicked count ns → ArePicked count (put_by before n ns)
  picked_put before n [] within all picked = (within, tt, tt)
  picked_put before n (m ∷ ns) within all picked =
      by (before m n) (picked_put before n ns within all.1 picked.2)
    where
      by : (b : Bool) → ArePicked count (put_by before n ns)
          → ArePicked count (cond b (m ∷ put_by before n ns) (n ∷ m ∷ ns))
      by true rest = (picked.0, all_put before m n ns (λ e. all.0 (sym e)) picked.1, rest)
      by false rest = (within, all, picked)

  picked_arranged : (before : ℕ → ℕ → Bool) (ns : List ℕ) → ArePicked count ns
      → ArePicked count (arranged_by before ns)
  picked_arranged before [] picked = tt
  picked_arranged before (n ∷ ns) picked =
      picked_put before n (arranged_by before ns) picked.0
      (all_arranged before n ns picked.1) (picked_arranged before ns picked.2)

  all_taken : (m k : ℕ) (ns : List ℕ) → AllByRecursion (λ k. m ≢ k) ns
      → AllByRecursion (λ k. m ≢ k) (take k ns)
  all_taken m zero ns all = tt
  all_taken m (suc k) [] all = tt
  all_taken m (suc k) (n ∷ ns) all = (all.0, all_taken m k ns all.1)

  pub picked_taken : (k : ℕ) (ns : List ℕ) → ArePicked count ns → ArePicked count (take k ns)
  picked_taken zero ns picked = tt
  picked_taken (suc k) [] picked = tt
  picked_taken (suc k) (n ∷ ns) picked =
      (picked.0, all_taken n k ns picked.1, picked_taken k ns picked.2)

  pub picked_limited : (limit : Option ℕ) (ns : List ℕ) → ArePicked count ns
      → ArePicked count (numbers_limited limit ns)
  picked_limited None ns picked = picked
  picked_limited (Some most) ns picked = picked_taken most ns picked

  all_filtered : (m : ℕ) (p : ℕ → Bool) (ns : List ℕ) → AllByRecursion (λ k. m ≢ k) ns
      → AllByRecursion (λ k. m ≢ k) (filter p ns)
  all_filtered m p [] all = tt
  all_filtered m p (n ∷ ns) all = by (p n) (all_filtered m p ns all.1)
    where
      by : (b : Bool) → AllByRecursion (λ k. m ≢ k) (filter p ns)
          → AllByRecursion (λ k. m ≢ k) (cond b (n ∷ filter p ns) (filter p ns))
      by true rest = (all.0, rest)
      by false rest = rest

  pub picked_filtered : (p : ℕ → Bool) (ns : List ℕ) → ArePicked count ns
      → ArePicked count (filter p ns)
  picked_filtered p [] picked = tt
  picked_filtered p (n ∷ ns) picked = by (p n) (picked_filtered p ns picked.2)
    where
      by : (b : Bool) → ArePicked count (filter p ns)
          → ArePicked count (cond b (n ∷ filter p ns) (filter p ns))
      by true rest = (picked.0, all_filtered n p ns picked.1, rest)
      by false rest = rest

  -- without one in the middle
  pub picked_without : (ms : List ℕ) (n : ℕ) (ns : List ℕ) → ArePicked count (ms ++ n ∷ ns)
      → ArePicked count (ms ++ ns)
  picked_without [] n ns picked = picked.2
  picked_without (m ∷ ms) n ns picked =
      (picked.0, all_without ms picked.1, picked_without ms n ns picked.2)
    where
      all_without : (ms : List ℕ) → AllByRecursion (λ k. m ≢ k) (ms ++ n ∷ ns)
          → AllByRecursion (λ k. m ≢ k) (ms ++ ns)
      all_without [] all = all.1
      all_without (l ∷ ms) all = (all.0, all_without ms all.1)

all_behind : (m a n : ℕ) → m < a → AllByRecursion (λ k. m ≢ k) (range_with_len a n)
all_behind m a zero less = tt
all_behind m a (suc n) less =
    (λ e. absurd (omega (arith, less, e)), all_behind m (a + 1) n (omega (arith, less)))

picked_range : (count a n : ℕ) → a + n ≤ count → ArePicked count (range_with_len a n)
picked_range count a zero within = tt
picked_range count a (suc n) within = (
  omega (arith, within),
  all_behind a (a + 1) n (omega arith),
  picked_range count (a + 1) n (omega (arith, within)),
)

pub all_picked : (rows : List (List Value)) → ArePicked (length rows) (numbers_of rows)
all_picked rows = picked_range (length rows) 0 (length rows) (omega arith)

-- ---- the rows that numbers have

pub all_rows : (rows : List (List Value)) → rows_at rows (numbers_of rows) ≡ rows
all_rows rows = pick_l_whole [] rows (length rows) refl

module _ (rows : List (List Value)) (descending : Bool) (order : List ℕ) where
  abbrev before : ℕ → ℕ → Bool
  before = by_number rows (goes_before descending order)

  numbers_in_order : IsStrictWeakOrder before
  numbers_in_order = by descending
    where
      by : (d : Bool) → IsStrictWeakOrder (by_number rows (goes_before d order))
      by false = ranks_by (lists_total values_total) (λ n. ranks_in order (row_at rows n))
      by true =
          IsStrictWeakOrder-flip (by_number rows (goes_before false order))
          (ranks_by (lists_total values_total) (λ n. ranks_in order (row_at rows n)))

  module _ (ms ns : List ℕ) (is : IsArrangement before ms ns) where
    whole : ns ≡ arranged_by before ms
    whole =
        one_arrangement before numbers_in_order ms ns (arranged_by before ms) is
        (is_arranged before numbers_in_order ms)

    pub picked_in_order : (count : ℕ) → ArePicked count ms → ArePicked count ns
    picked_in_order count picked =
        subst (ArePicked count) (sym whole) (picked_arranged count before ms picked)

    pub rows_in_order : IsArrangement (goes_before descending order) (rows_at rows ms) (rows_at rows ns)
    rows_in_order =
        subst (IsArrangement (goes_before descending order) (rows_at rows ms))
        (sym (ap (rows_at rows) whole
        ∙ arranged_seen (row_at rows) before (goes_before descending order) (λ x y. refl) ms))
        (is_arranged (goes_before descending order) (goes_in_order descending order) (rows_at rows ms))

-- ---- the first rows, and some of those behind them

range_split : (a m n : ℕ)
    → range_with_len a (m + n) ≡ range_with_len a m ++ range_with_len (a + m) n
range_split a zero n = ap₂ range_with_len (none a) (none_in_front n)
  where
    none : (k : ℕ) → k ≡ k + 0
    none k = omega arith

    none_in_front : (k : ℕ) → 0 + k ≡ k
    none_in_front k = omega arith
range_split a (suc m) n =
    ap (range_with_len a) (one_out m n)
    ∙ ap (λ l. a ∷ l)
    (range_split (a + 1) m n ∙ ap (λ k. range_with_len (a + 1) m ++ range_with_len k n) (one_in a m))
  where
    one_out : (m n : ℕ) → suc m + n ≡ suc (m + n)
    one_out m n = omega arith

    one_in : (a m : ℕ) → (a + 1) + m ≡ a + suc m
    one_in a m = omega arith

-- one number more
pub one_number_more : (n : ℕ) (ns more : List ℕ) → ns ≡ range_with_len 0 n → more ≡ ns ++ n ∷ []
    → more ≡ range_with_len 0 (n + 1)
one_number_more n ns more are added =
    added ∙ ap₂ (λ l k. l ++ k ∷ []) are (none_in_front n) ∙ sym (range_split 0 n 1)
  where
    none_in_front : (k : ℕ) → k ≡ 0 + k
    none_in_front k = omega arith

is_below : (m n : ℕ) → m < n → nat_lt m n ≡ true
is_below m n less = grind (arith, nat_tests)

not_below : (m n : ℕ) → n ≤ m → nat_lt m n ≡ false
not_below m n past = grind (arith, nat_tests)

front_stays : (q : ℕ → Bool) (most a n : ℕ) → a + n ≤ most
    → filter (λ m. nat_lt m most || q m) (range_with_len a n) ≡ range_with_len a n
front_stays q most a zero within = refl
front_stays q most a (suc n) within =
    ap (λ b. cond (b || q a) (a ∷ rest) rest) (is_below a most (omega (arith, within)))
    ∙ ap (λ l. a ∷ l) (front_stays q most (a + 1) n (omega (arith, within)))
  where
    rest : List ℕ
    rest = filter (λ m. nat_lt m most || q m) (range_with_len (a + 1) n)

behind_kept : (rows : List (List Value)) (comes : List Value → Bool) (most a n : ℕ) → most ≤ a
    → rows_at rows (filter (λ m. nat_lt m most || comes (row_at rows m)) (range_with_len a n))
    ≡ filter comes (rows_at rows (range_with_len a n))
behind_kept rows comes most a zero past = refl
behind_kept rows comes most a (suc n) past =
    ap (λ b. rows_at rows (cond (b || comes (row_at rows a)) (a ∷ rest) rest))
    (not_below a most past)
    ∙ by (comes (row_at rows a)) (behind_kept rows comes most (a + 1) n (omega (arith, past)))
  where
    rest : List ℕ
    rest = filter (λ m. nat_lt m most || comes (row_at rows m)) (range_with_len (a + 1) n)

    others : List (List Value)
    others = rows_at rows (range_with_len (a + 1) n)

    by : (b : Bool) → rows_at rows rest ≡ filter comes others
        → rows_at rows (cond b (a ∷ rest) rest)
        ≡ cond b (row_at rows a ∷ filter comes others) (filter comes others)
    by true same = ap (λ l. row_at rows a ∷ l) same
    by false same = same

pub front_and_some : (rows : List (List Value)) (comes : List Value → Bool) (most : ℕ)
    → most ≤ length rows
    → rows_at rows (filter (λ m. nat_lt m most || comes (row_at rows m)) (numbers_of rows))
    ≡ take most rows ++ filter comes (drop most rows)
front_and_some rows comes most many =
    ap (λ l. rows_at rows (filter stays l))
    (ap (range_with_len 0) split ∙ range_split 0 most (length rows - most))
    ∙ ap (rows_at rows) (filter-append stays (range_with_len 0 most) (range_with_len (0 + most) (length rows - most)))
    ∙ map-append (row_at rows) (filter stays (range_with_len 0 most))
    (filter stays (range_with_len (0 + most) (length rows - most)))
    ∙ ap₂ (λ l m. l ++ m)
    (ap (rows_at rows) (front_stays (λ m. comes (row_at rows m)) most 0 most (omega arith))
    ∙ pick_l-range_with_len [] rows 0 most (omega (arith, many)))
    (behind_kept rows comes most (0 + most) (length rows - most) (omega arith)
    ∙ ap (filter comes)
    (ap (λ k. rows_at rows (range_with_len k (length rows - most))) (none_in_front most)
    ∙ pick_l-range_with_len [] rows most (length rows - most) (omega (arith, many))
    ∙ take_rest rows most))
  where
    stays : ℕ → Bool
    stays m = nat_lt m most || comes (row_at rows m)

    split : length rows ≡ most + (length rows - most)
    split = omega (arith, many)

    none_in_front : (k : ℕ) → 0 + k ≡ k
    none_in_front k = omega arith
