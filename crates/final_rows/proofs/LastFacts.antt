-- The last of some rows comes before none of them.
use Rattle.std.proofs.Common.{◌≡◌, ℕ, zero, suc, ◌+◌, ◌<◌, ◌≤◌, Bool, true, false, cond, List, [], ◌∷◌, ◌++◌}
use Rattle.std.proofs.Common.{add-one, ap, arith, length, refl, sym, take, take-suc, ◌∙◌}
use Rattle.std.specs.Cmp.{IsStrictWeakOrder}
use Rattle.std.specs.List.{AllByRecursion}
use Rattle.query_answer.specs.Rows.{row_at}
use Rattle.query_code.specs.declared.program.Output.{Output}
use Rattle.query_values.specs.declared.value.Value.{Value}
use Rattle.final_rows.proofs.FrontFacts.{never_itself}
use Rattle.final_rows.proofs.OrderFacts.{goes_in_order}
use Rattle.final_rows.specs.Enough.{last_from, last_of, later_of}
use Rattle.final_rows.specs.Order.{comes_before}

module _ (o : Output) where
  order : IsStrictWeakOrder (comes_before o)
  order = goes_in_order o.is_descending o.order

  -- what comes before neither of two
  under_both : (m a b : List Value) → comes_before o m (later_of o a b) ≡ false
      → (comes_before o m a ≡ false) × (comes_before o m b ≡ false)
  under_both m a b high = by (comes_before o a b) refl high
    where
      by : (before : Bool) → comes_before o a b ≡ before
          → comes_before o m (cond before b a) ≡ false
          → (comes_before o m a ≡ false) × (comes_before o m b ≡ false)
      by true e h = (order.chain m b a h (order.one_way a b e), h)
      by false e h = (h, order.chain m a b h e)

  -- what comes before the last of them comes before none of them
  under_all : (m last : List Value) (rows : List (List Value))
      → comes_before o m (last_from o last rows) ≡ false
      → AllByRecursion (λ row. comes_before o m row ≡ false) (last ∷ rows)
  under_all m last [] high = (high, tt)
  under_all m last (row ∷ rows) high =
      let rest = under_all m (later_of o last row) rows high in
      let both = under_both m last row rest.0 in (both.0, (both.1, rest.1))

  pub none_behind_last : (rows : List (List Value))
      → AllByRecursion (λ row. comes_before o (last_of o rows) row ≡ false) rows
  none_behind_last [] = tt
  none_behind_last (row ∷ rows) =
      under_all (last_from o row rows) row rows
      (never_itself (comes_before o) order (last_from o row rows))

  -- ---- the last of a list's front

  last_from_more : (last x : List Value) (rows : List (List Value))
      → last_from o last (rows ++ x ∷ []) ≡ later_of o (last_from o last rows) x
  last_from_more last x [] = refl
  last_from_more last x (row ∷ rows) = last_from_more (later_of o last row) x rows

  pub last_more : (rows : List (List Value)) (n : ℕ) → 1 ≤ n → n < length rows
      → later_of o (last_of o (take n rows)) (row_at rows n) ≡ last_of o (take (n + 1) rows)
  last_more [] n some within = absurd (omega (arith, within))
  last_more (row ∷ rows) zero some within = absurd (omega (arith, some))
  last_more (row ∷ rows) (suc n) some within =
      sym (last_from_more row (row_at rows n) (take n rows))
      ∙ ap (last_from o row)
      (sym (take-suc rows n [] (omega (arith, within))))
      ∙ ap (λ k. last_of o (take k (row ∷ rows))) (sym (add-one (suc n)))

  pub first_is_last : (rows : List (List Value)) → 1 ≤ length rows
      → row_at rows 0 ≡ last_of o (take 1 rows)
  first_is_last [] some = absurd (omega (arith, some))
  first_is_last (row ∷ rows) some = refl
