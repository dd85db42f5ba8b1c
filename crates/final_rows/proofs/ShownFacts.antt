-- What comes out of rows that stand in order.
use Rattle.std.proofs.Common.{◌≡◌, ℕ, Bool, true, false, cond, List, [], ◌∷◌, ◌++◌, map, take, length}
use Rattle.std.proofs.Common.{append_assoc, refl, subst, sym, ap, ◌∙◌, Option, Some, None}
use Rattle.std.proofs.lemmas.List.{map-append, take-map}
use Rattle.std.specs.List.{list_any}
use Rattle.plain_machine.specs.Finishing.{ComesOut, ranked}
use Rattle.query_answer.specs.Rows.{ArePicked, row_at}
use Rattle.query_code.specs.declared.program.Output.{Output}
use Rattle.query_rows.specs.FinalRows.{limited, once_if, shown_of}
use Rattle.query_rows.specs.Same.{each_once, same_values, with_new}
use Rattle.query_values.specs.declared.value.Value.{Value}
use Rattle.theory.specs.Arrangement.{IsArrangement}
use Rattle.final_rows.proofs.NumberFacts.{picked_without}
use Rattle.final_rows.proofs.OrderFacts.{ranked_in_order}
use Rattle.final_rows.proofs.RankFacts.{as_they_stand}
use Rattle.final_rows.specs.Numbers.{numbers_limited, numbers_with_new, rows_at}
use Rattle.final_rows.specs.Order.{comes_before, goes_before}

fronts : (o : Output) (rows : List (List Value))
    → map shown_of (map (ranked o) rows) ≡ map (take (length o.targets)) rows
fronts o [] = refl
fronts o (r ∷ rows) = ap (λ l. take (length o.targets) r ∷ l) (fronts o rows)

limited_fronts : (most : Option ℕ) (width : ℕ) (rows : List (List Value))
    → map (take width) (limited most rows) ≡ limited most (map (take width) rows)
limited_fronts None width rows = refl
limited_fronts (Some n) width rows = sym (take-map (take width) n rows)

limited_rows : (most : Option ℕ) (rows : List (List Value)) (numbers : List ℕ)
    → rows_at rows (numbers_limited most numbers) ≡ limited most (rows_at rows numbers)
limited_rows None rows numbers = refl
limited_rows (Some n) rows numbers = sym (take-map (row_at rows) n numbers)

module _ (o : Output) (rows sorted : List (List Value))
    (in_order : IsArrangement (comes_before o) rows sorted) where
  out_of : (out : List (List Value)) (distinct : Bool) → o.is_distinct ≡ distinct
      → out ≡ limited o.limit (once_if distinct (map (take (length o.targets)) sorted))
      → ComesOut o rows out
  out_of out distinct e is = record {
    arranged = map (ranked o) sorted;
    in_order = ranked_in_order o rows sorted in_order;
    is = is ∙ ap (λ d. limited o.limit (once_if d (map (take (length o.targets)) sorted))) (sym e)
        ∙ ap (λ shown. limited o.limit (once_if o.is_distinct shown)) (sym (fronts o sorted));
  }

  pub all_out : (kept out : List (List Value)) → o.is_distinct ≡ false
      → kept ≡ limited o.limit sorted → out ≡ map (take (length o.targets)) kept
      → ComesOut o rows out
  all_out kept out e cut is =
      out_of out false e
      (is ∙ ap (map (take (length o.targets))) cut
      ∙ limited_fronts o.limit (length o.targets) sorted)

-- rows that come out by their numbers
module _ (o : Output) (rows : List (List Value)) (numbers : List ℕ)
    (in_order : IsArrangement (comes_before o) rows (rows_at rows numbers)) where
  pub numbers_out : (out : List ℕ) → o.is_distinct ≡ false → out ≡ numbers_limited o.limit numbers
      → ComesOut o rows (map (take (length o.targets)) (rows_at rows out))
  numbers_out out e cut =
      all_out o rows (rows_at rows numbers) in_order (rows_at rows out)
      (map (take (length o.targets)) (rows_at rows out)) e
      (ap (rows_at rows) cut ∙ limited_rows o.limit rows numbers) refl

  pub once_out : (width : ℕ) (once out : List ℕ) → width ≡ length o.targets
      → o.is_distinct ≡ true
      → map (take width) (rows_at rows once) ≡ each_once [] (map (take width) (rows_at rows numbers))
      → out ≡ numbers_limited o.limit once
      → ComesOut o rows (map (take (length o.targets)) (rows_at rows out))
  once_out width once out wide e is cut =
      out_of o rows (rows_at rows numbers) in_order
      (map (take (length o.targets)) (rows_at rows out)) true e
      (ap (λ l. map (take (length o.targets)) l)
      (ap (rows_at rows) cut ∙ limited_rows o.limit rows once)
      ∙ limited_fronts o.limit (length o.targets) (rows_at rows once)
      ∙ ap (limited o.limit)
      (subst (λ w. map (take w) (rows_at rows once) ≡ each_once [] (map (take w) (rows_at rows numbers)))
      wide is))

-- where there is nothing to order by
pub stand_in_order : (o : Output) (rows : List (List Value)) → o.order ≡ []
    → IsArrangement (comes_before o) rows rows
stand_in_order o rows none =
    subst (λ order. IsArrangement (goes_before o.is_descending order) rows rows) (sym none)
    (as_they_stand (λ row. row) o.is_descending rows)

-- ---- rows that are told once

-- what stands while numbers are gone through
pub record AreOnce (shown : ℕ → List Value) (count : ℕ) (numbers rest once : List ℕ)
    (keys : List (List Value)) : Type 0 where
  pub each : each_once [] (map shown numbers) ≡ each_once keys (map shown rest)
  pub keys_are : map shown once ≡ keys
  pub picked : ArePicked count (once ++ rest)

pub noted : (shown : ℕ → List Value) (count : ℕ) (numbers rest once others more : List ℕ)
    (keys new : List (List Value)) (n : ℕ) → AreOnce shown count numbers rest once keys
    → rest ≡ n ∷ others → new ≡ with_new keys (shown n)
    → more ≡ numbers_with_new keys (shown n) once n → AreOnce shown count numbers others more new
noted shown count numbers rest once others more keys new n now split seen told =
    by (list_any (same_values (shown n)) keys) seen told
  where
    picked_here : ArePicked count (once ++ n ∷ others)
    picked_here = subst (λ l. ArePicked count (once ++ l)) split now.picked

    next : each_once [] (map shown numbers) ≡ each_once new (map shown others)
    next =
        now.each ∙ ap (λ l. each_once keys (map shown l)) split
        ∙ ap (λ k. each_once k (map shown others)) (sym seen)

    by : (b : Bool) → new ≡ cond b keys (keys ++ shown n ∷ []) → more ≡ cond b once (once ++ n ∷ [])
        → AreOnce shown count numbers others more new
    by true kept same = record {
      each = next;
      keys_are = ap (map shown) same ∙ now.keys_are ∙ sym kept;
      picked = subst (λ l. ArePicked count (l ++ others)) (sym same)
          (picked_without count once n others picked_here);
    }
    by false kept added = record {
      each = next;
      keys_are = ap (map shown) added ∙ map-append shown once (n ∷ [])
          ∙ ap (λ l. l ++ shown n ∷ []) now.keys_are ∙ sym kept;
      picked = subst (λ l. ArePicked count l)
          (sym (ap (λ l. l ++ others) added ∙ append_assoc once (n ∷ []) others)) picked_here;
    }

fused : (f : List Value → List Value) (g : ℕ → List Value) (ns : List ℕ)
    → map f (map g ns) ≡ map (λ n. f (g n)) ns
fused f g [] = refl
fused f g (n ∷ ns) = ap (λ l. f (g n) ∷ l) (fused f g ns)

-- where all are gone through
pub once_told : (rows : List (List Value)) (width : ℕ) (numbers rest once : List ℕ)
    (keys : List (List Value))
    → AreOnce (λ n. take width (row_at rows n)) (length rows) numbers rest once keys → rest ≡ []
    → map (take width) (rows_at rows once) ≡ each_once [] (map (take width) (rows_at rows numbers))
once_told rows width numbers rest once keys now ended =
    fused (take width) (row_at rows) once ∙ now.keys_are
    ∙ sym (now.each ∙ ap (λ l. each_once keys (map (λ n. take width (row_at rows n)) l)) ended)
    ∙ ap (each_once []) (sym (fused (take width) (row_at rows) numbers))
