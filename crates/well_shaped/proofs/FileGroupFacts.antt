-- What is known of the aggregates of a well shaped program.
use Rattle.std.proofs.Common.{◌≡◌, ℕ, suc, Bool, true, false, cond, List, [], ◌∷◌, length, Option}
use Rattle.std.proofs.Common.{Some, None, Ok, Err, refl, ap, ◌∙◌, subst, arith, ◌*◌, ◌≤◌}
use Rattle.std.proofs.lemmas.Bool.{eqb-true}
use Rattle.std.specs.Prelude.{option_and_then, ◌==◌}
use Rattle.limits.specs.declared.counts.TheConstants.{MOST_PLACES}
use Rattle.query_code.specs.ByteForm.{AllFit}
use Rattle.query_code.specs.QueryFile as form
use Rattle.query_rows.specs.Rules as machine
use Rattle.query_rows.specs.Rules.{Ruled, aggregate_shape}
use Rattle.query_rows.specs.Shape.{fitting}
use Rattle.query_rows.specs.declared.shape.Misfit.TheVariants.{Kind}
use Rattle.query_rows.specs.declared.shape.Shape.{Shape}
use Rattle.query_rows.specs.declared.shape.Shape.TheVariants as shape
use Rattle.query_values.specs.declared.operation.Aggregate.{Aggregate}
use Rattle.query_values.specs.declared.operation.Aggregate.TheVariants as aggregate
use Rattle.well_shaped.specs.Ends.{cons_if, front_of, gathered}
use Rattle.well_shaped.specs.Sections.{given}
use Rattle.well_shaped.proofs.FileFieldFacts.{HasPlaces, aggregate_fits}
use Rattle.well_shaped.proofs.FileSectionFacts.{narrow_inventory, narrow_number}

-- ---- decimals of sums

summed_narrow : (n q : ℕ) (s t : Shape) → machine.summed n q s ≡ Ok t → q ≤ MOST_PLACES
summed_narrow n q (shape.Number p m) t e = by (p == q) refl e
  where
    by : (is : Bool) → (p == q) ≡ is
        → cond is (fitting (shape.Number p (n * m))) (Err Kind) ≡ Ok t → q ≤ MOST_PLACES
    by true is e =
        subst (λ p. p ≤ MOST_PLACES) (eqb-true p q is) (narrow_number p (n * m) t e)
    by false is e = absurd cc
summed_narrow n q s t e = absurd cc

collected_narrow : (n q : ℕ) (s t : Shape) → machine.gathered n q s ≡ Ok t → q ≤ MOST_PLACES
collected_narrow n q (shape.Amount p m) t e = by (p == q) refl e
  where
    by : (is : Bool) → (p == q) ≡ is
        → cond is (fitting (shape.Inventory p (n * m) 0)) (Err Kind) ≡ Ok t → q ≤ MOST_PLACES
    by true is e =
        subst (λ p. p ≤ MOST_PLACES) (eqb-true p q is) (narrow_inventory p (n * m) 0 t e)
    by false is e = absurd cc
collected_narrow n q (shape.Position u v) t e = by (8 == q) refl e
  where
    by : (is : Bool) → (8 == q) ≡ is
        → cond is (fitting (shape.Inventory 8 (n * u) (n * v))) (Err Kind) ≡ Ok t
        → q ≤ MOST_PLACES
    by true is e = let same = eqb-true 8 q is in omega (arith, same)
    by false is e = absurd cc
collected_narrow n q s t e = absurd cc

narrow : (n : ℕ) (a : Aggregate) (s t : Shape) → aggregate_shape n a (Some s) ≡ Ok t → HasPlaces a
narrow n (aggregate.Sum p) s t e = summed_narrow n p s t e
narrow n (aggregate.SumInventory p) s t e = collected_narrow n p s t e
narrow n a s t e = omega arith

-- ---- each of a list

record IsMore (o : Option Shape) (q : Option (List Shape)) (ts : List Shape) : Type 0 where
  first : Shape
  others : List Shape
  is : o ≡ Some first
  are : q ≡ Some others
  all : ts ≡ first ∷ others

is_more : (o : Option Shape) (q : Option (List Shape)) (ts : List Shape) → cons_if o q ≡ Some ts
    → IsMore o q ts
is_more None q ts e = absurd cc
is_more (Some s) None ts e = absurd cc
is_more (Some s) (Some ss) ts e =
    record { first = s; others = ss; is = refl; are = refl; all = same ts e }
  where
    same : (ts : List Shape) → Some (s ∷ ss) ≡ Some ts → ts ≡ s ∷ ss
    same ts e = cc

ok_of : (r : Ruled) (s : Shape) → given r ≡ Some s → r ≡ Ok s
ok_of (Ok t) s e = cc
ok_of (Err f) s e = absurd cc

-- as many totals as aggregates, each of which can be written
pub record AreWritten (list : List Aggregate) (totals : List Shape) : Type 0 where
  pub as_many : length totals ≡ length list
  pub fit : AllFit form.aggregate list

more_written : (a : Aggregate) (list : List Aggregate) (o : Option Shape) (q : Option (List Shape))
    (totals : List Shape) → HasPlaces a → IsMore o q totals
    → ((others : List Shape) → q ≡ Some others → AreWritten list others)
    → AreWritten (a ∷ list) totals
more_written a list o q totals h more rest =
    let k = rest more.others more.are in
    record {
      as_many = ap length more.all ∙ ap suc k.as_many;
      fit = (aggregate_fits a h, k.fit);
    }

of_values : (n : ℕ) (a : Aggregate) (list : List Aggregate) (s : Shape) (inputs totals : List Shape)
    → cons_if (given (aggregate_shape n a (Some s))) (gathered n list inputs) ≡ Some totals
    → ((others : List Shape) → gathered n list inputs ≡ Some others → AreWritten list others)
    → AreWritten (a ∷ list) totals
of_values n a list s inputs totals e rest =
    let more = is_more (given (aggregate_shape n a (Some s))) (gathered n list inputs) totals e in
    more_written a list (given (aggregate_shape n a (Some s))) (gathered n list inputs) totals
    (narrow n a s more.first (ok_of (aggregate_shape n a (Some s)) more.first more.is)) more rest

of_inputs : (n : ℕ) (a : Aggregate) (list : List Aggregate) (inputs totals : List Shape)
    → option_and_then
    (λ i. cons_if (given (aggregate_shape n a (Some i.0))) (gathered n list i.1)) (front_of inputs)
    ≡ Some totals
    → ((inputs others : List Shape) → gathered n list inputs ≡ Some others → AreWritten list others)
    → AreWritten (a ∷ list) totals
of_inputs n a list [] totals e rest = absurd cc
of_inputs n a list (s ∷ inputs) totals e rest =
    of_values n a list s inputs totals e (rest inputs)

pub are_written : (n : ℕ) (list : List Aggregate) (inputs totals : List Shape)
    → gathered n list inputs ≡ Some totals → AreWritten list totals
are_written n [] [] totals e = record { as_many = ap length (nothing totals e); fit = tt }
  where
    nothing : (totals : List Shape) → Some [] ≡ Some totals → totals ≡ []
    nothing totals e = cc
are_written n [] (s ∷ inputs) totals e = absurd cc
are_written n (aggregate.CountRows ∷ list) inputs totals e =
    let more = is_more (given (aggregate_shape n aggregate.CountRows None)) (gathered n list inputs)
    totals e in
    more_written aggregate.CountRows list (given (aggregate_shape n aggregate.CountRows None))
    (gathered n list inputs) totals (omega arith) more (are_written n list inputs)
are_written n (aggregate.Count ∷ list) inputs totals e =
    of_inputs n aggregate.Count list inputs totals e (are_written n list)
are_written n (aggregate.Sum p ∷ list) inputs totals e =
    of_inputs n (aggregate.Sum p) list inputs totals e (are_written n list)
are_written n (aggregate.SumInventory p ∷ list) inputs totals e =
    of_inputs n (aggregate.SumInventory p) list inputs totals e (are_written n list)
are_written n (aggregate.First ∷ list) inputs totals e =
    of_inputs n aggregate.First list inputs totals e (are_written n list)
are_written n (aggregate.Last ∷ list) inputs totals e =
    of_inputs n aggregate.Last list inputs totals e (are_written n list)
are_written n (aggregate.Min ∷ list) inputs totals e =
    of_inputs n aggregate.Min list inputs totals e (are_written n list)
are_written n (aggregate.Max ∷ list) inputs totals e =
    of_inputs n aggregate.Max list inputs totals e (are_written n list)
