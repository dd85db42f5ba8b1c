-- Well shaped programs run safely.
use Rattle.std.proofs.Common.{◌≡◌, ℕ, ◌≤◌, true, List, length, refl}
use Rattle.std.specs.Prelude.{All, nat_le}
use Rattle.std.specs.List.{list_all}
use Rattle.std.proofs.Math.Bridge.{le_prop}
use Rattle.std.proofs.Math.Logic.{∥∥₁_elim}
use Rattle.std.proofs.Props.{props}
use Rattle.std.proofs.lemmas.Bool.{and_parts, leb-true}
use Rattle.std.proofs.lemmas.List.Elements.{recursion_from_All}
use Rattle.limits.specs.declared.bounds.Bounds.{Bounds}
use Rattle.query_rows.specs.Fits.{fits, row_fits}
use Rattle.query_rows.specs.Row.{Row}
use Rattle.query_rows.specs.Shaped.{IsShaped}
use Rattle.query_code.specs.QueryFile.{file}
use Rattle.query_code.specs.declared.program.Parts.{Parts}
use Rattle.plain_machine.specs.PlainMachine.{stand_after}
use Rattle.plain_machine.specs.Safety.{RunsSafely}
use Rattle.well_shaped.specs.Program.{IsDepth}
use Rattle.well_shaped.proofs.FileFacts.{some_targets, texts_are_short}
use Rattle.well_shaped.proofs.StepFacts.{Good, no_fault, stays_good, stays_shallow}

safe_prop : (p : Parts) (rows : List Row) (depth : ℕ) → IsProp (RunsSafely p rows depth)
safe_prop p rows depth = hlevel (props, le_prop)

module _ (p : Parts) (depth : ℕ) (rows : List Row) (few : length rows ≤ p.bounds.postings)
    (are : All (IsShaped p.bounds) rows) where
  safe : file.fits p → IsDepth p depth → RunsSafely p rows depth
  safe has is = record {
    never_faults = λ n. no_fault p is.shaped (texts_are_short p has) (some_targets p has) p.mode refl
        is.shaped.ends (stand_after p rows n) (good n);
    stays_within = λ n. stays_shallow p is.shaped (texts_are_short p has) (some_targets p has) depth
        is.greatest (stand_after p rows n) (good n);
  }
    where
      good : (n : ℕ)
          → Good p is.shaped (texts_are_short p has) (some_targets p has) p.mode is.shaped.ends
          (stand_after p rows n)
      good =
          stays_good p is.shaped (texts_are_short p has) (some_targets p has) p.mode refl
          is.shaped.ends rows few (recursion_from_All (IsShaped p.bounds) rows are)

  pub runs_safely : ∥ file.fits p ∥₁ → ∥ IsDepth p depth ∥₁ → RunsSafely p rows depth
  runs_safely has is =
      ∥∥₁_elim has (safe_prop p rows depth)
      (λ file_fits. ∥∥₁_elim is (safe_prop p rows depth) (λ shaped. safe file_fits shaped))

few_that_fit : (b : Bounds) (rows : List Row) → fits b rows ≡ true → length rows ≤ b.postings
few_that_fit b rows e =
    leb-true (length rows) b.postings
    (and_parts (nat_le (length rows) b.postings) (list_all (row_fits b) rows) e).0

pub safely_where_it_fits : (p : Parts) (depth : ℕ) (rows : List Row) → ∥ file.fits p ∥₁
    → ∥ IsDepth p depth ∥₁ → fits p.bounds rows ≡ true → All (IsShaped p.bounds) rows
    → RunsSafely p rows depth
safely_where_it_fits p depth rows has is fit are =
    runs_safely p depth rows (few_that_fit p.bounds rows fit) are has is
