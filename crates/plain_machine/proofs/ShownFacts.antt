-- What rows show is as wide as the program has targets.
use Rattle.std.proofs.Common.{◌≡◌, ℕ, ◌+◌, Bool, true, false, List, [], ◌∷◌, ◌++◌, length}
use Rattle.std.proofs.Common.{Option, Some, None, map, sym, subst, arith, if◌then◌else◌}
use Rattle.std.specs.Prelude.{take, zero, suc}
use Rattle.std.proofs.lemmas.List.{length-take-le}
use Rattle.std.proofs.lemmas.List.Elements.{All-from_recursion}
use Rattle.std.specs.List.{AllByRecursion, list_any}
use Rattle.plain_machine.specs.Finishing.{finish_of, ranked}
use Rattle.plain_machine.specs.Gathering.{all_inputs}
use Rattle.plain_machine.specs.PlainMachine.{width_of}
use Rattle.query_code.specs.declared.program.Output.{Output}
use Rattle.query_rows.proofs.FinalRowsFacts.{are_one, final_of, is_final}
use Rattle.query_rows.specs.FinalRows.{Ranked, comes_before, limited, once_if, shown_of}
use Rattle.query_rows.specs.Same.{each_once, same_values, with_new}
use Rattle.query_values.specs.declared.value.Value.{Value}
use Rattle.theory.specs.Arrangement.{arranged_by, put_by}
use Rattle.plain_machine.specs.Widths.{RowsAreAsWideAsTargets}
use Rattle.plain_machine.proofs.StandFacts.{StandsWide, Wide, after_wide}

-- of at least so many values the first so many
taken : {X : Type 0} (n m : ℕ) (xs : List X) → length xs ≡ n + m → length (take n xs) ≡ n
taken n m xs is = length-take-le n xs (omega (arith, is))

abbrev pub ShowWide : ℕ → List Ranked → Type 0
ShowWide n rows = AllByRecursion (λ r. length r.shown ≡ n) rows

shown_wide : (o : Output) (rows : List (List Value)) → Wide (width_of o) rows
    → ShowWide (length o.targets) (map (ranked o) rows)
shown_wide o [] are = tt
shown_wide o (row ∷ rows) are =
    (taken (length o.targets) o.hidden row are.0, shown_wide o rows are.1)

module _ (n : ℕ) (before : Ranked → Ranked → Bool) where
  by : (b : Bool) (x y : Ranked) (ys : List Ranked) → length x.shown ≡ n → ShowWide n (y ∷ ys)
      → ShowWide n (put_by before x ys)
      → ShowWide n (if b then y ∷ put_by before x ys else x ∷ y ∷ ys)
  by true x y ys is are rest = (are.0, rest)
  by false x y ys is are rest = (is, are)

  put_wide : (x : Ranked) (ys : List Ranked) → length x.shown ≡ n → ShowWide n ys
      → ShowWide n (put_by before x ys)
  put_wide x [] is are = (is, tt)
  put_wide x (y ∷ ys) is are = by (before y x) x y ys is are (put_wide x ys is are.1)

  arranged_wide : (xs : List Ranked) → ShowWide n xs → ShowWide n (arranged_by before xs)
  arranged_wide [] are = tt
  arranged_wide (x ∷ xs) are = put_wide x (arranged_by before xs) are.0 (arranged_wide xs are.1)

module _ (n : ℕ) where
  mapped_wide : (xs : List Ranked) → ShowWide n xs → Wide n (map shown_of xs)
  mapped_wide [] are = tt
  mapped_wide (x ∷ xs) are = (are.0, mapped_wide xs are.1)

  behind : (kept : List (List Value)) (row : List Value) → Wide n kept → length row ≡ n
      → Wide n (kept ++ row ∷ [])
  behind [] row are is = (is, tt)
  behind (r ∷ kept) row are is = (are.0, behind kept row are.1 is)

  new_wide : (kept : List (List Value)) (row : List Value) → Wide n kept → length row ≡ n
      → (b : Bool) → Wide n (if b then kept else kept ++ row ∷ [])
  new_wide kept row are is true = are
  new_wide kept row are is false = behind kept row are is

  once_wide : (kept rows : List (List Value)) → Wide n kept → Wide n rows
      → Wide n (each_once kept rows)
  once_wide kept [] had are = had
  once_wide kept (row ∷ rows) had are =
      once_wide (with_new kept row) rows
      (new_wide kept row had are.0 (list_any (same_values row) kept)) are.1

  once_if_wide : (b : Bool) (rows : List (List Value)) → Wide n rows → Wide n (once_if b rows)
  once_if_wide false rows are = are
  once_if_wide true rows are = once_wide [] rows tt are

  take_wide : (most : ℕ) (rows : List (List Value)) → Wide n rows → Wide n (take most rows)
  take_wide zero rows are = tt
  take_wide (suc most) [] are = tt
  take_wide (suc most) (row ∷ rows) are = (are.0, take_wide most rows are.1)

  limited_wide : (limit : Option ℕ) (rows : List (List Value)) → Wide n rows
      → Wide n (limited limit rows)
  limited_wide None rows are = are
  limited_wide (Some most) rows are = take_wide most rows are

final_wide : (o : Output) (rows : List (List Value)) → Wide (width_of o) rows
    → Wide (length o.targets) (final_of (finish_of o) (map (ranked o) rows))
final_wide o rows are =
    let n = length o.targets in
    limited_wide n o.limit _
    (once_if_wide n o.is_distinct _
    (mapped_wide n _
    (arranged_wide n (comes_before (finish_of o)) (map (ranked o) rows) (shown_wide o rows are))))

pub rows_are_wide : RowsAreAsWideAsTargets
rows_are_wide p ledger a is =
    let at_end : Wide (width_of p.output) a.rows =
    subst (StandsWide (List (List Value)) p) is.done
    (after_wide (List (List Value)) p (all_inputs p.code.aggregates) ledger a.steps) in
    let same =
    are_one (finish_of p.output) (map (ranked p.output) a.rows) a.final
    (final_of (finish_of p.output) (map (ranked p.output) a.rows)) is.comes_out
    (is_final (finish_of p.output) (map (ranked p.output) a.rows)) in
    All-from_recursion (λ row. length row ≡ length p.output.targets) a.final
    (subst (Wide (length p.output.targets)) (sym same) (final_wide p.output a.rows at_end))
