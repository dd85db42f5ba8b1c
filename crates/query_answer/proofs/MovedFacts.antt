-- Rows of which one was moved out, and rows that are picked.
use Rattle.std.proofs.Common.{◌≡◌, ◌≢◌, ℕ, zero, suc, ◌+◌, ◌-◌, ◌<◌, ◌≤◌, List, [], ◌∷◌, ◌++◌, length, map}
use Rattle.std.proofs.Common.{append_assoc, take, drop, get_or, refl, slice_index_or, slice_set, sym, take-suc, add-one, ap, ap₂, subst, ◌∙◌, arith, inl, inr}
use Rattle.std.proofs.Math.Seq.{length-take-le}
use Rattle.std.proofs.lemmas.Bool.{cases_lt}
use Rattle.std.proofs.lemmas.List.{drop-drop, drop-set-lt, drop_more, get_or-drop, get_or-map}
use Rattle.std.proofs.lemmas.List.{get_or_default, length-map}
use Rattle.std.proofs.lemmas.List.{length-append, length-drop, take-append-drop}
use Rattle.std.proofs.lemmas.Slice.{drop-put_mid, take-put_mid, take-put_mid_below}
use Rattle.std.specs.List.{AllByRecursion}
use borrow.Rule.Slice.PartMut.{put_mid}
use Rattle.query_answer.specs.Rows.{ArePicked, row_at}
use Rattle.query_answer.specs.Spans.{IsSameAround, LieApart, between, rows_in, span_at, values_in}
use Rattle.query_answer.specs.declared.rows.Span.{Span}
use Rattle.query_values.specs.declared.value.Value.{Value}
use Rattle.query_answer.proofs.SpanFacts.{LiesWithin, apart_added, lies_at, lies_there, no_row}
use Rattle.query_answer.proofs.SpanFacts.{row_there, rows_added, same_before, same_behind}

-- ---- one row moved out

same_around : (s : Span) (old new ys : List Value) → s.start ≤ s.end → s.end ≤ length old
    → length ys ≡ s.end - s.start → take s.start new ≡ take s.start old
    → take s.end new ≡ take s.start old ++ ys → drop s.end new ≡ drop s.end old
    → IsSameAround s old new
same_around s old new ys up inside long front middle back = record {
  count = long_by s.end new ∙ ap₂ (λ m n. m + n) taken (ap length back) ∙ sym (long_by s.end old);
  front = front;
  back = back;
}
  where
    long_by : (n : ℕ) (xs : List Value) → length xs ≡ length (take n xs) + length (drop n xs)
    long_by n xs = ap length (sym (take-append-drop n xs)) ∙ length-append (take n xs) (drop n xs)

    taken : length (take s.end new) ≡ length (take s.end old)
    taken =
        ap length middle ∙ length-append (take s.start old) ys
        ∙ ap₂ (λ m n. m + n) (length-take-le s.start old (omega (arith, up, inside))) long
        ∙ omega (arith, up) ∙ sym (length-take-le s.end old inside)

-- what was written in place of a span, of as many values
pub put_around : (s : Span) (old ys : List Value) → s.start ≤ s.end → s.end ≤ length old
    → length ys ≡ length (values_in old s)
    → IsSameAround s old (put_mid s.start (s.end - s.start) old ys)
put_around s old ys up inside alike =
    same_around s old (put_mid a n old ys) ys up inside long
    (take-put_mid_below a n old ys a (omega arith) (omega (arith, up, inside)))
    (take-put_mid a n old ys s.end (omega (arith, up, long)) (omega (arith, up, inside)))
    (drop-put_mid a n old ys s.end (omega (arith, up)) (omega (arith, up, inside)) long)
  where
    a : ℕ
    a = s.start

    n : ℕ
    n = s.end - s.start

    long : length ys ≡ n
    long =
        let dropped = length-drop a old in
        alike ∙ length-take-le n (drop a old) (omega (arith, inside, dropped))

there : (vs : List Value) (ss : List Span) (m : ℕ) (d : Span) → m < length ss
    → row_at (rows_in vs ss) m ≡ values_in vs (get_or ss m d)
there vs ss m d within = get_or-map (values_in vs) ss m d [] within

others_stay : (from count : ℕ) (vs ws : List Value) (ss : List Span) (n m : ℕ) (d : Span)
    → LieApart from count ss → n < length ss → n ≢ m → IsSameAround (get_or ss n d) vs ws
    → row_at (rows_in ws ss) m ≡ row_at (rows_in vs ss) m
others_stay from count vs ws [] n m d apart within other same = refl
others_stay from count vs ws (s ∷ ss) zero zero d apart within other same = absurd (other refl)
others_stay from count vs ws (s ∷ ss) zero (suc m) d (begins, ends, rest) within other same =
    elim (cases_lt m (length ss)) [
      | inl less ↦
          there ws ss m d less
          ∙ same_behind ws vs (get_or ss m d).start (get_or ss m d).end s.end
          (lies_at s.end count ss m d less rest).begins same.back
          ∙ sym (there vs ss m d less)
      | inr past ↦ no_row ws ss m past ∙ sym (no_row vs ss m past)
    ]
others_stay from count vs ws (s ∷ ss) (suc n) zero d (begins, ends, rest) within other same =
    same_before ws vs s.start s.end (get_or ss n d).start ends
    (lies_at s.end count ss n d (omega (arith, within)) rest).begins same.front
others_stay from count vs ws (s ∷ ss) (suc n) (suc m) d (begins, ends, rest) within other same =
    others_stay s.end count vs ws ss n m d rest (omega (arith, within)) (λ e. other (ap suc e)) same

-- the rows behind it
pub all_behind : (n from count : ℕ) (vs ws : List Value) (ss : List Span) → LieApart from count ss
    → n ≤ from → drop n ws ≡ drop n vs → rows_in ws ss ≡ rows_in vs ss
all_behind n from count vs ws [] apart past same = refl
all_behind n from count vs ws (s ∷ ss) (begins, ends, rest) past same =
    ap₂ (λ x l. x ∷ l)
    (same_behind ws vs s.start s.end n (omega (arith, begins, past)) same)
    (all_behind n s.end count vs ws ss rest (omega (arith, begins, ends, past)) same)

-- ---- rows that are picked

module _ (vs ws : List Value) (ss : List Span) (n : ℕ) (s : Span) (apart : LieApart 0 (length vs) ss)
    (within : n < length ss) (is : s ≡ get_or ss n s) (same : IsSameAround s vs ws) where
  pub others_map : (ms : List ℕ) → AllByRecursion (λ m. n ≢ m) ms
      → map (row_at (rows_in ws ss)) ms ≡ map (row_at (rows_in vs ss)) ms
  others_map [] all = refl
  others_map (m ∷ ms) all =
      ap₂ (λ x l. x ∷ l)
      (others_stay 0 (length vs) vs ws ss n m s apart within all.0
      (subst (λ t. IsSameAround t vs ws) is same))
      (others_map ms all.1)

-- what stands while rows are picked
pub record ArePicking (rows : List (List Value)) (numbers : List ℕ) (old vs : List Value)
    (ss ps : List Span) (rest : List ℕ) : Type 0 where
  pub still : ArePicked (length ss) rest
  pub left : LieApart 0 (length old) ss
  pub apart : LieApart 0 (length vs) ps
  pub is : map (row_at rows) numbers ≡ rows_in vs ps ++ map (row_at (rows_in old ss)) rest

module _ (rows : List (List Value)) (numbers : List ℕ) (old vs : List Value) (ss ps : List Span)
    (rest others : List ℕ) (n : ℕ) (now : ArePicking rows numbers old vs ss ps rest)
    (split : rest ≡ n ∷ others) (s : Span) (lies : s ≡ get_or ss n s) where
  here : ArePicked (length ss) (n ∷ others)
  here = subst (ArePicked (length ss)) split now.still

  pub lies_here : LiesWithin 0 (length old) s
  lies_here = lies_there (length old) ss n s here.0 now.left lies

  pub picked_on : (new ws : List Value) (t : Span) (qs : List Span)
      → ws ≡ vs ++ values_in old s → t ≡ between vs ws → qs ≡ ps ++ t ∷ []
      → IsSameAround s old new → ArePicking rows numbers new ws ss qs others
  picked_on new ws t qs moved at behind same = record {
    still = here.2;
    left = subst (λ k. LieApart 0 k ss) (sym same.count) now.left;
    apart = apart_added vs (values_in old s) ws ps qs moved spans now.apart;
    is = now.is ∙ ap (λ l. rows_in vs ps ++ map (row_at (rows_in old ss)) l) split
        ∙ sym (append_assoc (rows_in vs ps) (row_at (rows_in old ss) n ∷ [])
        (map (row_at (rows_in old ss)) others))
        ∙ ap₂ (λ l m. l ++ m)
        (ap (λ r. rows_in vs ps ++ r ∷ []) (sym (row_there old ss n s here.0 lies))
        ∙ sym (rows_added vs (values_in old s) ws ps qs moved spans now.apart))
        (sym (others_map old new ss n s now.left here.0 lies same others here.1));
  }
    where
      spans : qs ≡ ps ++ between vs ws ∷ []
      spans = behind ∙ ap (λ x. ps ++ x ∷ []) at

-- the same while where they lie is gone through, which is known of all of them
pub one_more : (ns : List ℕ) (i : ℕ) → i < length ns
    → drop i ns ≡ slice_index_or ns i 0 ∷ drop (i + 1) ns
one_more ns i within = drop_more ns i 0 within

pub number_there : (ss lying : List Span) (ns : List ℕ) (i : ℕ) → lying ≡ map (span_at ss) ns
    → i < length lying → i < length ns
number_there ss lying ns i all within =
    let long = ap length all ∙ length-map ns (span_at ss) in omega (arith, within, long)

pub lies_at_number : (ss lying : List Span) (ns : List ℕ) (i : ℕ) (s : Span)
    → lying ≡ map (span_at ss) ns → i < length lying → s ≡ get_or lying i s
    → ArePicked (length ss) (drop i ns)
    → s ≡ get_or ss (slice_index_or ns i 0) s
lies_at_number ss lying ns i s all within is picked =
    is ∙ ap (λ l. get_or l i s) all
    ∙ get_or-map (span_at ss) ns i 0 s here
    ∙ get_or_default ss (slice_index_or ns i 0) (record { start = 0; end = 0 }) s
    (subst (ArePicked (length ss)) (one_more ns i here) picked).0
  where
    here : i < length ns
    here = number_there ss lying ns i all within

-- ---- values that are moved one by one

module _ (was now : List Value) (i : ℕ) (x y : Value) (long : length now ≡ length was)
    (within : i < length now) (same : drop i now ≡ drop i was) where
  none : (k : ℕ) → k ≡ k + 0
  none k = omega arith

  is_there : x ≡ get_or now i x → x ≡ get_or was i x
  is_there is =
      is ∙ ap (λ k. get_or now k x) (none i) ∙ sym (get_or-drop i now 0 x)
      ∙ ap (λ l. get_or l 0 x) same ∙ get_or-drop i was 0 x
      ∙ ap (λ k. get_or was k x) (sym (none i))

  pub moved_more : (to ends more : List Value) → x ≡ get_or now i x → ends ≡ to ++ take i was
      → more ≡ ends ++ x ∷ [] → more ≡ to ++ take (i + 1) was
  moved_more to ends more is before after =
      after ∙ ap (λ l. l ++ x ∷ []) before ∙ append_assoc to (take i was) (x ∷ [])
      ∙ ap (λ l. to ++ l)
      (ap (λ v. take i was ++ v ∷ []) (is_there is)
      ∙ sym (take-suc was i x (omega (arith, within, long))) ∙ ap (λ n. take n was) (sym (add-one i)))

  pub left_more : drop (i + 1) (slice_set now i y) ≡ drop (i + 1) was
  left_more =
      drop-set-lt (i + 1) now i y (omega arith) ∙ sym (drop-drop 1 i now) ∙ ap (drop 1) same
      ∙ drop-drop 1 i was
