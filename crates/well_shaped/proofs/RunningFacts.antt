-- The running inventory of shaped rows lies in the shape of its column.
use Rattle.std.proofs.Common.{◌≡◌, ℕ, suc, ◌≤◌, List, [], ◌∷◌, ◌++◌, Some, None, Ok, Err}
use Rattle.std.proofs.Common.{Option, true, cond, refl, sym, ap, subst, arith}
use Rattle.std.proofs.lemmas.Bool.{and_from}
use Rattle.limits.specs.declared.bounds.Bounds.{Bounds}
use Rattle.query_values.proofs.AggregateFacts.{gathered_more}
use Rattle.query_values.specs.Aggregate.{aggregate_of, may_take, with_more}
use Rattle.query_values.specs.Held.{is_held}
use Rattle.query_values.specs.declared.operation.Aggregate.TheVariants.{SumInventory}
use Rattle.query_values.specs.declared.value.Value.{Value}
use Rattle.query_rows.specs.Rules.{aggregate_shape}
use Rattle.query_rows.specs.Shape.{LiesIn}
use Rattle.query_rows.specs.declared.shape.Misfit.TheVariants.{TooWide}
use Rattle.query_rows.specs.declared.shape.Shape.{Shape}
use Rattle.query_rows.proofs.BoundFacts.{column_is_held}
use Rattle.query_rows.specs.ColumnShape.{AreBounds, column_shape}
use Rattle.query_terms.specs.declared.column.Column.TheVariants.{Balance, Position}
use Rattle.query_rows.specs.Row.{Row}
use Rattle.query_rows.specs.Shaped.{IsShaped}
use Rattle.plain_machine.specs.Gathering.{running_with}
use Rattle.well_shaped.proofs.GatheringFacts.{AreInputs, Gives, gathers, held_more, may_more}
use Rattle.well_shaped.proofs.GatheringFacts.{one_more, later}

-- the positions of at most k postings, gathered
pub record RunningLies (b : Bounds) (k : ℕ) (running : Value) : Type 0 where
  pub positions : List Value
  pub is : running ≡ aggregate_of (SumInventory 8) positions
  pub each : AreInputs k (Some (column_shape b Position)) positions

pub none_running : (b : Bounds) → RunningLies b 0 (aggregate_of (SumInventory 8) [])
none_running b =
    record { positions = []; is = refl; each = record { few = omega arith; each = tt } }

pub running_later : (b : Bounds) (k l : ℕ) (running : Value) → k ≤ l → RunningLies b k running
    → RunningLies b l running
running_later b k l running low lies = record {
  positions = lies.positions;
  is = lies.is;
  each = later k l (Some (column_shape b Position)) lies.positions low lies.each;
}

module _ (b : Bounds) (are : AreBounds b) where
  sums_up : aggregate_shape b.postings (SumInventory 8) (Some (column_shape b Position))
      ≡ Ok (column_shape b Balance)
  sums_up =
      ap (λ t. cond t (Ok (column_shape b Balance)) (Err TooWide)) (column_is_held b Balance are)

  pub running_lies : (running : Value) → RunningLies b b.postings running
      → LiesIn running (column_shape b Balance)
  running_lies running lies =
      subst (λ x. LiesIn x (column_shape b Balance)) (sym lies.is)
      (gathers (SumInventory 8) b.postings (Some (column_shape b Position)) (column_shape b Balance)
      lies.positions sums_up lies.each).lies

  -- with the position of one row more
  pub running_more : (k : ℕ) (running : Value) (r : Row) → suc k ≤ b.postings
      → RunningLies b k running → IsShaped b r
      → Gives (RunningLies b (suc k)) (running_with running r)
  running_more k running r room lies shaped =
      subst (λ v. Gives (RunningLies b (suc k)) (running_with v r)) (sym lies.is) there
    where
      xs : List Value
      xs = lies.positions

      x : Value
      x = r.cell Position

      more : Value
      more = with_more (SumInventory 8) (aggregate_of (SumInventory 8) xs) x

      shape : Option Shape
      shape = Some (column_shape b Position)

      in_shape : LiesIn x (column_shape b Position)
      in_shape = shaped.cells Position refl

      held : is_held more ≡ true
      held =
          subst (λ v. is_held v ≡ true) (gathered_more (SumInventory 8) xs x)
          (held_more (SumInventory 8) b.postings shape (column_shape b Balance) sums_up k room xs x
          lies.each in_shape)

      may : may_take (SumInventory 8) (aggregate_of (SumInventory 8) xs) x ≡ true
      may =
          may_more (SumInventory 8) b.postings shape (column_shape b Balance) sums_up k room xs x
          lies.each in_shape

      next : RunningLies b (suc k) more
      next = record {
        positions = xs ++ x ∷ [];
        is = sym (gathered_more (SumInventory 8) xs x);
        each = one_more k shape xs x lies.each in_shape;
      }

      there : Gives (RunningLies b (suc k)) (running_with (aggregate_of (SumInventory 8) xs) r)
      there =
          subst (λ t. Gives (RunningLies b (suc k)) (cond t (Some more) None))
          (sym (and_from (may_take (SumInventory 8) (aggregate_of (SumInventory 8) xs) x)
          (is_held more) may held)) next
