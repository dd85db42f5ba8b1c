-- Rows that lie apart in one list.
use Rattle.std.proofs.Common.{◌≡◌, ℕ, zero, suc, ◌+◌, ◌-◌, ◌<◌, ◌≤◌, List, [], ◌∷◌, ◌++◌, length}
use Rattle.std.proofs.Common.{map, min, take, drop, get_or, refl, sym, ap, ap₂, subst, ◌∙◌, arith, inl, inr}
use Rattle.std.proofs.Math.Seq.{take-append_seam, drop-append_seam, take-length}
use Rattle.std.proofs.lemmas.Bool.{cases_lt}
use Rattle.std.proofs.lemmas.List.{drop-drop, drop-take, get_or-map, get_or_past, length-append, length-map}
use Rattle.std.proofs.lemmas.List.{map-append}
use Rattle.std.specs.List.{slice_range}
use Rattle.query_answer.specs.Rows.{row_at}
use Rattle.query_answer.specs.Spans.{LieApart, between, narrowed_to, rows_in, values_in}
use Rattle.query_answer.specs.declared.rows.Span.{Span}
use Rattle.query_values.specs.declared.value.Value.{Value}

-- ---- fronts of fronts

take_few : {X : Type 0} (m n : ℕ) (xs : List X) → m ≤ n → take m (take n xs) ≡ take m xs
take_few zero n xs few = refl
take_few (suc m) zero xs few = absurd (omega (arith, few))
take_few (suc m) (suc n) [] few = refl
take_few (suc m) (suc n) (x ∷ xs) few = ap (λ l. x ∷ l) (take_few m n xs (omega (arith, few)))

take_many : {X : Type 0} (m n : ℕ) (xs : List X) → n ≤ m → take m (take n xs) ≡ take n xs
take_many zero zero xs many = refl
take_many zero (suc n) xs many = absurd (omega (arith, many))
take_many (suc m) zero xs many = refl
take_many (suc m) (suc n) [] many = refl
take_many (suc m) (suc n) (x ∷ xs) many = ap (λ l. x ∷ l) (take_many m n xs (omega (arith, many)))

-- ---- what lies in front of a place, or behind it

pub same_before : (vs ws : List Value) (a b n : ℕ) → a ≤ b → b ≤ n → take n vs ≡ take n ws
    → slice_range vs a b ≡ slice_range ws a b
same_before vs ws a b n up within same =
    sym (drop-take a (b - a) vs)
    ∙ ap (drop a)
    (sym (take_few (a + (b - a)) n vs (omega (arith, up, within)))
    ∙ ap (take (a + (b - a))) same
    ∙ take_few (a + (b - a)) n ws (omega (arith, up, within)))
    ∙ drop-take a (b - a) ws

pub same_behind : (vs ws : List Value) (a b n : ℕ) → n ≤ a → drop n vs ≡ drop n ws
    → slice_range vs a b ≡ slice_range ws a b
same_behind vs ws a b n past same =
    ap (λ k. take (b - a) (drop k vs)) split
    ∙ ap (take (b - a))
    (sym (drop-drop (a - n) n vs) ∙ ap (drop (a - n)) same ∙ drop-drop (a - n) n ws)
    ∙ ap (λ k. take (b - a) (drop k ws)) (sym split)
  where
    split : a ≡ n + (a - n)
    split = omega (arith, past)

-- ---- spans

pub ends_within : (from count : ℕ) (ss : List Span) → LieApart from count ss → from ≤ count
ends_within from count [] within = within
ends_within from count (s ∷ ss) (begins, ends, rest) =
    let last = ends_within s.end count ss rest in omega (arith, begins, ends, last)

pub grown : (from n m : ℕ) (ss : List Span) → LieApart from n ss → n ≤ m → LieApart from m ss
grown from n m [] within more = omega (arith, within, more)
grown from n m (s ∷ ss) (begins, ends, rest) more = (begins, ends, grown s.end n m ss rest more)

lower : (to from count : ℕ) (ss : List Span) → LieApart from count ss → to ≤ from
    → LieApart to count ss
lower to from count [] within less = omega (arith, within, less)
lower to from count (s ∷ ss) (begins, ends, rest) less = (omega (arith, begins, less), ends, rest)

one_more : (from n m : ℕ) (ss : List Span) → LieApart from n ss → n ≤ m
    → LieApart from m (ss ++ record { start = n; end = m } ∷ [])
one_more from n m [] within more = (within, more, omega arith)
one_more from n m (s ∷ ss) (begins, ends, rest) more = (begins, ends, one_more s.end n m ss rest more)

pub apart_taken : (k from count : ℕ) (ss : List Span) → LieApart from count ss
    → LieApart from count (take k ss)
apart_taken zero from count ss apart = ends_within from count ss apart
apart_taken (suc k) from count [] apart = apart
apart_taken (suc k) from count (s ∷ ss) (begins, ends, rest) =
    (begins, ends, apart_taken k s.end count ss rest)

pub apart_narrowed : (width from count : ℕ) (ss : List Span) → LieApart from count ss
    → LieApart from count (map (narrowed_to width) ss)
apart_narrowed width from count [] apart = apart
apart_narrowed width from count (s ∷ ss) (begins, ends, rest) = (
  begins,
  omega (arith, ends),
  lower (min (s.start + width) s.end) s.end count (map (narrowed_to width) ss)
      (apart_narrowed width s.end count ss rest) (omega arith),
)

-- where the row of a number lies
pub record LiesWithin (from count : ℕ) (s : Span) : Type 0 where
  pub begins : from ≤ s.start
  pub ends : s.start ≤ s.end
  pub within : s.end ≤ count

pub lies_at : (from count : ℕ) (ss : List Span) (n : ℕ) (d : Span) → n < length ss
    → LieApart from count ss → LiesWithin from count (get_or ss n d)
lies_at from count [] n d there apart = absurd (omega (arith, there))
lies_at from count (s ∷ ss) zero d there (begins, ends, rest) =
    record { begins = begins; ends = ends; within = ends_within s.end count ss rest }
lies_at from count (s ∷ ss) (suc n) d there (begins, ends, rest) =
    let lies = lies_at s.end count ss n d (omega (arith, there)) rest in
    record {
      begins = (let behind = lies.begins in omega (arith, begins, ends, behind));
      ends = lies.ends;
      within = lies.within;
    }

pub lies_there : (count : ℕ) (ss : List Span) (n : ℕ) (s : Span) → n < length ss
    → LieApart 0 count ss → s ≡ get_or ss n s → LiesWithin 0 count s
lies_there count ss n s there apart is =
    subst (LiesWithin 0 count) (sym is) (lies_at 0 count ss n s there apart)

-- ---- rows

module _ (vs : List Value) (ss : List Span) where
  pub row_there : (n : ℕ) (s : Span) → n < length ss → s ≡ get_or ss n s
      → slice_range vs s.start s.end ≡ row_at (rows_in vs ss) n
  row_there n s there is =
      ap (values_in vs) is ∙ sym (get_or-map (values_in vs) ss n s [] there)

  pub no_row : (n : ℕ) → length ss ≤ n → row_at (rows_in vs ss) n ≡ []
  no_row n past =
      get_or_past (rows_in vs ss) n []
      (subst (λ k. k ≤ n) (sym (length-map ss (values_in vs))) past)

still_there : (from : ℕ) (vs row : List Value) (ss : List Span) → LieApart from (length vs) ss
    → rows_in (vs ++ row) ss ≡ rows_in vs ss
still_there from vs row [] apart = refl
still_there from vs row (s ∷ ss) (begins, ends, rest) =
    ap₂ (λ x l. x ∷ l)
    (same_before (vs ++ row) vs s.start s.end (length vs) ends
    (ends_within s.end (length vs) ss rest)
    (take-append_seam vs row ∙ sym (take-length vs)))
    (still_there s.end vs row ss rest)

last_row : (vs row : List Value)
    → slice_range (vs ++ row) (length vs) (length (vs ++ row)) ≡ row
last_row vs row =
    ap (take (length (vs ++ row) - length vs)) (drop-append_seam vs row)
    ∙ ap (λ n. take n row) (ap (λ n. n - length vs) (length-append vs row) ∙ left (length vs) (length row))
    ∙ take-length row
  where
    left : (m n : ℕ) → (m + n) - m ≡ n
    left m n = omega arith

-- a row behind others
module _ (vs row ws : List Value) (ss ts : List Span) (values : ws ≡ vs ++ row)
    (spans : ts ≡ ss ++ between vs ws ∷ []) (apart : LieApart 0 (length vs) ss) where
  pub not_fewer : length vs ≤ length ws
  not_fewer = let long = ap length values ∙ length-append vs row in omega (arith, long)

  pub apart_added : LieApart 0 (length ws) ts
  apart_added =
      subst (LieApart 0 (length ws)) (sym spans)
      (one_more 0 (length vs) (length ws) ss apart not_fewer)

  pub rows_added : rows_in ws ts ≡ rows_in vs ss ++ row ∷ []
  rows_added =
      ap₂ rows_in values (spans ∙ ap (λ l. ss ++ between vs l ∷ []) values)
      ∙ map-append (values_in (vs ++ row)) ss (between vs (vs ++ row) ∷ [])
      ∙ ap₂ (λ l x. l ++ x ∷ []) (still_there 0 vs row ss apart) (last_row vs row)

-- rows up to so many values
narrowed_row : (vs : List Value) (width : ℕ) (s : Span)
    → take width (values_in vs s) ≡ values_in vs (narrowed_to width s)
narrowed_row vs width s =
    elim (cases_lt width (s.end - s.start)) [
      | inl less ↦ take_few width (s.end - s.start) (drop s.start vs) (omega (arith, less))
          ∙ ap (λ n. take n (drop s.start vs)) (few less)
      | inr past ↦ take_many width (s.end - s.start) (drop s.start vs) past
          ∙ ap (λ n. take n (drop s.start vs)) (many past)
    ]
  where
    few : width < s.end - s.start → width ≡ min (s.start + width) s.end - s.start
    few less = omega (arith, less)

    many : s.end - s.start ≤ width → s.end - s.start ≡ min (s.start + width) s.end - s.start
    many past = omega (arith, past)

pub rows_narrowed : (vs : List Value) (width : ℕ) (ss : List Span)
    → rows_in vs (map (narrowed_to width) ss) ≡ map (take width) (rows_in vs ss)
rows_narrowed vs width [] = refl
rows_narrowed vs width (s ∷ ss) =
    ap₂ (λ x l. x ∷ l) (sym (narrowed_row vs width s)) (rows_narrowed vs width ss)
