-- The front of rows in order is enough of them.
use Rattle.std.proofs.Common.{◌≡◌, ℕ, zero, suc, Bool, true, false, cond, ◌&&◌, List, [], ◌∷◌, ◌++◌}
use Rattle.std.proofs.Common.{◌≤◌, arith, drop, filter, length, map, take, refl, sym, ap, subst, ◌∙◌, Some, None}
use Rattle.std.specs.List.{AllByRecursion, list_all}
use Rattle.std.proofs.lemmas.Bool.{and_parts}
use Rattle.std.proofs.lemmas.List.{append_assoc, length-map, length-take, map-append, take-append-drop}
use Rattle.std.proofs.lemmas.List.{take-map}
use Rattle.plain_machine.specs.Finishing.{ComesOut, ranked}
use Rattle.query_answer.specs.Rows.{row_at}
use Rattle.query_code.specs.declared.program.Output.{Output}
use Rattle.query_rows.specs.FinalRows.{Ranked, limited, once_if, shown_of}
use Rattle.query_values.specs.declared.value.Value.{Value}
use Rattle.theory.proofs.ArrangedFacts.{is_arranged}
use Rattle.theory.proofs.ArrangementFacts.{one_arrangement}
use Rattle.theory.specs.Arrangement.{IsArrangement, arranged_by, put_by}
use Rattle.final_rows.proofs.FrontFacts.{front_stays, thin_front}
use Rattle.final_rows.proofs.LastFacts.{none_behind_last}
use Rattle.final_rows.proofs.NumberFacts.{all_rows, front_and_some, rows_in_order}
use Rattle.final_rows.proofs.OrderFacts.{before_ranked, goes_in_order, in_a_row, one_order}
use Rattle.final_rows.proofs.OrderFacts.{ranked_in_order, same_order}
use Rattle.final_rows.specs.Enough.{AreAmong, AreEnough, ComeOutAlike, enough_of}
use Rattle.final_rows.specs.Enough.{last_of, stays}
use Rattle.final_rows.specs.Numbers.{by_number, numbers_of, rows_at}
use Rattle.final_rows.specs.Order.{comes_before}

-- ---- what holds of each of them

pub both : (a b : Bool) → a ≡ true → b ≡ true → (a && b) ≡ true
both a b e f = rw (e, f) refl

module _ {X : Type 0} (holds : X → Bool) where
  all_put : (before : X → X → Bool) (x : X) (ys : List X) → holds x ≡ true
      → list_all holds ys ≡ true → list_all holds (put_by before x ys) ≡ true
  all_put before x [] p q = both (holds x) true p refl
  all_put before x (y ∷ ys) p q =
      let parts = and_parts (holds y) (list_all holds ys) q in
      by (before y x) (both (holds y) (list_all holds (put_by before x ys)) parts.0
      (all_put before x ys p parts.1))
    where
      by : (b : Bool) → list_all holds (y ∷ put_by before x ys) ≡ true
          → list_all holds (cond b (y ∷ put_by before x ys) (x ∷ y ∷ ys)) ≡ true
      by true rest = rest
      by false rest = both (holds x) (list_all holds (y ∷ ys)) p q

  all_arranged : (before : X → X → Bool) (xs : List X) → list_all holds xs ≡ true
      → list_all holds (arranged_by before xs) ≡ true
  all_arranged before [] q = refl
  all_arranged before (x ∷ xs) q =
      let parts = and_parts (holds x) (list_all holds xs) q in
      all_put before x (arranged_by before xs) parts.0 (all_arranged before xs parts.1)

  all_taken : (n : ℕ) (xs : List X) → list_all holds xs ≡ true
      → list_all holds (take n xs) ≡ true
  all_taken zero xs q = refl
  all_taken (suc n) [] q = refl
  all_taken (suc n) (x ∷ xs) q =
      let parts = and_parts (holds x) (list_all holds xs) q in
      both (holds x) (list_all holds (take n xs)) parts.0 (all_taken n xs parts.1)

  all_joined : (xs ys : List X) → list_all holds xs ≡ true → list_all holds ys ≡ true
      → list_all holds (xs ++ ys) ≡ true
  all_joined [] ys p q = q
  all_joined (x ∷ xs) ys p q =
      let parts = and_parts (holds x) (list_all holds xs) p in
      both (holds x) (list_all holds (xs ++ ys)) parts.0 (all_joined xs ys parts.1 q)

  all_first : (xs ys : List X) → list_all holds (xs ++ ys) ≡ true → list_all holds xs ≡ true
  all_first [] ys p = refl
  all_first (x ∷ xs) ys p =
      let parts = and_parts (holds x) (list_all holds (xs ++ ys)) p in
      both (holds x) (list_all holds xs) parts.0 (all_first xs ys parts.1)

  all_last : (xs ys : List X) → list_all holds (xs ++ ys) ≡ true → list_all holds ys ≡ true
  all_last [] ys p = p
  all_last (x ∷ xs) ys p =
      all_last xs ys (and_parts (holds x) (list_all holds (xs ++ ys)) p).1

-- ---- what is enough

pub all_enough : (o : Output) (rows : List (List Value)) → AreEnough o rows rows
all_enough o rows = record { among = λ holds e. e; alike = λ more final out. out }

-- more rows behind both
pub among_behind : (kept rows more : List (List Value)) → AreAmong kept rows
    → AreAmong (kept ++ more) (rows ++ more)
among_behind kept rows more among holds e =
    all_joined holds kept more (among holds (all_first holds rows more e))
    (all_last holds rows more e)

pub enough_behind : (o : Output) (kept rows more : List (List Value)) → AreEnough o kept rows
    → AreEnough o (kept ++ more) (rows ++ more)
enough_behind o kept rows more enough = record {
  among = among_behind kept rows more enough.among;
  alike = λ others final out.
      subst (λ l. ComesOut o l final) (sym (append_assoc rows more others))
      (enough.alike (more ++ others) final
      (subst (λ l. ComesOut o l final) (append_assoc kept more others) out));
}

-- enough of what is enough
pub enough_of_enough : (o : Output) (few kept rows : List (List Value)) → AreEnough o few kept
    → AreEnough o kept rows → AreEnough o few rows
enough_of_enough o few kept rows first then = record {
  among = λ holds e. first.among holds (then.among holds e);
  alike = λ more final out. then.alike more final (first.alike more final out);
}

-- ---- the front

pub enough_is : (o : Output) (most : ℕ) → enough_of o ≡ Some most
    → (o.is_distinct ≡ false) × (o.limit ≡ Some most)
enough_is o most e = by o.is_distinct e
  where
    by : (b : Bool) → cond b None o.limit ≡ Some most → (b ≡ false) × (o.limit ≡ Some most)
    by true e = absurd cc
    by false e = (refl, e)

module _ (o : Output) (most : ℕ) (is : enough_of o ≡ Some most) where
  cut : (arranged : List Ranked)
      → limited o.limit (once_if o.is_distinct (map shown_of arranged))
      ≡ map shown_of (take most arranged)
  cut arranged =
      ap (λ d. limited o.limit (once_if d (map shown_of arranged))) (enough_is o most is).0
      ∙ ap (λ l. limited l (map shown_of arranged)) (enough_is o most is).1
      ∙ take-map shown_of most arranged

  -- the same stands in front, whatever rows follow
  abbrev HaveSameFront : List (List Value) → List (List Value) → Type 0
  HaveSameFront kept rows =
      (more : List (List Value)) (arranged : List Ranked)
      → IsArrangement (before_ranked o) (map (ranked o) (kept ++ more)) arranged
      → take most arranged
      ≡ take most (arranged_by (before_ranked o) (map (ranked o) (rows ++ more)))

  alike_by : (kept rows : List (List Value)) → HaveSameFront kept rows → ComeOutAlike o kept rows
  alike_by kept rows same more final out = record {
    arranged = arranged_by (before_ranked o) (map (ranked o) (rows ++ more));
    in_order = is_arranged (before_ranked o) (in_a_row o.is_descending)
        (map (ranked o) (rows ++ more));
    is = out.is ∙ cut out.arranged
        ∙ ap (map shown_of) (same more out.arranged out.in_order)
        ∙ sym (cut (arranged_by (before_ranked o) (map (ranked o) (rows ++ more))));
  }

module _ (o : Output) (most : ℕ) (is : enough_of o ≡ Some most) (rows sorted : List (List Value))
    (in_order : IsArrangement (comes_before o) rows sorted) where
  same_front : HaveSameFront o most is (take most sorted) rows
  same_front more arranged is =
      let f = ranked o in
      let before = before_ranked o in
      let weak = in_a_row o.is_descending in
      ap (take most)
      (one_arrangement before weak (map f (take most sorted ++ more)) arranged
      (arranged_by before (map f (take most sorted ++ more))) is
      (is_arranged before weak (map f (take most sorted ++ more))))
      ∙ ap (λ l. take most (arranged_by before l))
      (map-append f (take most sorted) more
      ∙ ap (λ l. l ++ map f more) (sym (take-map f most sorted)))
      ∙ front_stays before weak most (map f rows) (map f sorted) (map f more)
      (ranked_in_order o rows sorted in_order)
      ∙ ap (λ l. take most (arranged_by before l)) (sym (map-append f rows more))

  among : AreAmong (take most sorted) rows
  among holds e =
      all_taken holds most sorted
      (subst (λ l. list_all holds l ≡ true) (sym whole)
      (all_arranged holds (comes_before o) rows e))
    where
      whole : sorted ≡ arranged_by (comes_before o) rows
      whole =
          one_order o.is_descending o.order rows sorted (arranged_by (comes_before o) rows) in_order
          (is_arranged (comes_before o) (goes_in_order o.is_descending o.order) rows)

  pub front_enough : AreEnough o (take most sorted) rows
  front_enough =
      record { among = among; alike = alike_by o most is (take most sorted) rows same_front }

-- ---- the rows that come before the last of those in front

all_kept : (holds p : List Value → Bool) (rows : List (List Value)) → list_all holds rows ≡ true
    → list_all holds (filter p rows) ≡ true
all_kept holds p [] e = refl
all_kept holds p (row ∷ rows) e =
    let parts = and_parts (holds row) (list_all holds rows) e in
    by (p row) parts.0 (all_kept holds p rows parts.1)
  where
    by : (b : Bool) → holds row ≡ true → list_all holds (filter p rows) ≡ true
        → list_all holds (cond b (row ∷ filter p rows) (filter p rows)) ≡ true
    by true first rest = both (holds row) (list_all holds (filter p rows)) first rest
    by false first rest = rest

module _ (o : Output) (last : List Value) where
  abbrev comes : List Value → Bool
  comes row = comes_before o row last

  abbrev comes_ranked : Ranked → Bool
  comes_ranked r = before_ranked o r (ranked o last)

  kept_ranked : (rows : List (List Value))
      → map (ranked o) (filter comes rows) ≡ filter comes_ranked (map (ranked o) rows)
  kept_ranked [] = refl
  kept_ranked (row ∷ rows) =
      by (comes row) (comes_ranked (ranked o row)) (same_order o row last) (kept_ranked rows)
    where
      by : (b c : Bool) → b ≡ c
          → map (ranked o) (filter comes rows) ≡ filter comes_ranked (map (ranked o) rows)
          → map (ranked o) (cond b (row ∷ filter comes rows) (filter comes rows))
          ≡ cond c (ranked o row ∷ filter comes_ranked (map (ranked o) rows))
          (filter comes_ranked (map (ranked o) rows))
      by true true e rest = ap (λ l. ranked o row ∷ l) rest
      by true false e rest = cc
      by false true e rest = cc
      by false false e rest = rest

  none_behind : (rows : List (List Value)) → AllByRecursion (λ row. comes_before o last row ≡ false) rows
      → AllByRecursion (λ r. before_ranked o (ranked o last) r ≡ false) (map (ranked o) rows)
  none_behind [] all = tt
  none_behind (row ∷ rows) all = (sym (same_order o last row) ∙ all.0, none_behind rows all.1)

module _ (o : Output) (most : ℕ) (is : enough_of o ≡ Some most) (last : List Value)
    (front behind : List (List Value)) (many : length front ≡ most)
    (none : AllByRecursion (λ row. comes_before o last row ≡ false) front) where
  abbrev kept : List (List Value)
  kept = filter (comes o last) behind

  split_kept : (more : List (List Value))
      → map (ranked o) ((front ++ kept) ++ more)
      ≡ (map (ranked o) front ++ filter (comes_ranked o last) (map (ranked o) behind))
      ++ map (ranked o) more
  split_kept more =
      map-append (ranked o) (front ++ kept) more
      ∙ ap (λ l. l ++ map (ranked o) more)
      (map-append (ranked o) front kept
      ∙ ap (λ l. map (ranked o) front ++ l) (kept_ranked o last behind))

  split_rows : (more : List (List Value))
      → map (ranked o) ((front ++ behind) ++ more)
      ≡ (map (ranked o) front ++ map (ranked o) behind) ++ map (ranked o) more
  split_rows more =
      map-append (ranked o) (front ++ behind) more
      ∙ ap (λ l. l ++ map (ranked o) more) (map-append (ranked o) front behind)

  as_many : length (map (ranked o) front) ≡ most
  as_many = length-map front (ranked o) ∙ many

  same_thinned : HaveSameFront o most is (front ++ kept) (front ++ behind)
  same_thinned more arranged in_order =
      let f = ranked o in
      let before = before_ranked o in
      let weak = in_a_row o.is_descending in
      let few = (map f front ++ filter (comes_ranked o last) (map f behind)) ++ map f more in
      let all = (map f front ++ map f behind) ++ map f more in
      ap (take most)
      (one_arrangement before weak (map f ((front ++ kept) ++ more)) arranged
      (arranged_by before (map f ((front ++ kept) ++ more))) in_order
      (is_arranged before weak (map f ((front ++ kept) ++ more))))
      ∙ ap (λ l. take most (arranged_by before l)) (split_kept more)
      ∙ ap (λ n. take n (arranged_by before few)) (sym as_many)
      ∙ thin_front before weak (f last) (map f front) (map f behind) (map f more)
      (none_behind o last front none)
      ∙ ap (λ n. take n (arranged_by before all)) as_many
      ∙ ap (λ l. take most (arranged_by before l)) (sym (split_rows more))

  among_thinned : AreAmong (front ++ kept) (front ++ behind)
  among_thinned holds e =
      all_joined holds front kept (all_first holds front behind e)
      (all_kept holds (comes o last) behind (all_last holds front behind e))

  -- those in front, and those that come before the last of these, are enough
  pub thinned_enough : AreEnough o (front ++ kept) (front ++ behind)
  thinned_enough = record {
    among = among_thinned;
    alike = alike_by o most is (front ++ kept) (front ++ behind) same_thinned;
  }

-- the same of rows that are cut there, where nothing is let go of but what stands behind
pub thinned_rows : (o : Output) (most : ℕ) → enough_of o ≡ Some most
    → (rows front behind few : List (List Value)) → most ≤ length rows → front ≡ take most rows
    → behind ≡ drop most rows → few ≡ filter (comes o (last_of o front)) behind
    → AreEnough o (front ++ few) rows
thinned_rows o most is rows front behind few room front_is behind_is few_is =
    subst (AreEnough o (front ++ few)) whole
    (subst (λ l. AreEnough o (front ++ l) (front ++ behind)) (sym few_is)
    (thinned_enough o most is (last_of o front) front behind many (none_behind_last o front)))
  where
    whole : front ++ behind ≡ rows
    whole =
        ap (λ l. l ++ behind) front_is ∙ ap (λ l. take most rows ++ l) behind_is
        ∙ take-append-drop most rows

    many : length front ≡ most
    many = ap length front_is ∙ length-take most rows ∙ omega (arith, room)

-- the same by their numbers
pub thinned_numbers : (o : Output) (most : ℕ) → enough_of o ≡ Some most
    → (rows : List (List Value)) (last : List Value) (numbers few : List ℕ) → most ≤ length rows
    → numbers ≡ numbers_of rows → last ≡ last_of o (take most rows)
    → few ≡ filter (stays o rows most last) numbers
    → AreEnough o (rows_at rows few) rows
thinned_numbers o most is rows last numbers few many all last_is few_is =
    subst (λ l. AreEnough o l rows)
    (sym (ap (rows_at rows) (few_is ∙ ap (filter (stays o rows most last)) all)
    ∙ front_and_some rows (comes o last) most many))
    (thinned_rows o most is rows (take most rows) (drop most rows)
    (filter (comes o last) (drop most rows)) many refl refl
    (ap (λ l. filter (comes o l) (drop most rows)) last_is))

pub all_numbers : (o : Output) (rows : List (List Value)) (numbers : List ℕ)
    → numbers ≡ numbers_of rows → AreEnough o (rows_at rows numbers) rows
all_numbers o rows numbers all =
    subst (λ l. AreEnough o l rows) (sym (ap (rows_at rows) all ∙ all_rows rows))
    (all_enough o rows)

-- so many in the front of the order of those that are enough
pub front_numbers : (o : Output) (most : ℕ) → enough_of o ≡ Some most
    → (rows : List (List Value)) (some sorted few : List ℕ) → AreEnough o (rows_at rows some) rows
    → IsArrangement (by_number rows (comes_before o)) some sorted → few ≡ take most sorted
    → AreEnough o (rows_at rows few) rows
front_numbers o most is rows some sorted few enough in_order cut =
    enough_of_enough o (rows_at rows few) (rows_at rows some) rows
    (subst (λ l. AreEnough o l (rows_at rows some))
    (take-map (row_at rows) most sorted ∙ ap (rows_at rows) (sym cut))
    (front_enough o most is (rows_at rows some) (rows_at rows sorted)
    (rows_in_order rows o.is_descending o.order some sorted in_order)))
    enough
