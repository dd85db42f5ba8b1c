-- Ends that pass with shapes pass with lesser ones.
use Rattle.std.proofs.Common.{◌≡◌, ℕ, List, [], ◌∷◌, ◌++◌, Option, Some, None}
use Rattle.std.proofs.Common.{true, refl, ap, ◌∙◌, arith, subst}
use Rattle.std.specs.Prelude.{slice_get, option_and_then}
use Rattle.std.specs.List.{list_all}
use Rattle.std.proofs.lemmas.Bool.{and_parts, and_from, false≢true}
use Rattle.query_values.specs.declared.operation.Aggregate.{Aggregate}
use Rattle.query_values.specs.declared.operation.Aggregate.TheVariants.{CountRows}
use Rattle.query_rows.proofs.GatheringFacts.{gathers_rise}
use Rattle.query_rows.proofs.OrderFacts.{below_cases}
use Rattle.query_rows.specs.Rules.{aggregate_shape, is_ranked}
use Rattle.query_rows.specs.Shape.{IsBelow}
use Rattle.query_rows.specs.declared.shape.Shape.{Shape}
use Rattle.query_rows.specs.declared.shape.Shape.TheVariants.{Truth}
use Rattle.query_code.specs.declared.program.Code.{Code}
use Rattle.query_code.specs.declared.program.Output.{Output}
use Rattle.well_shaped.specs.Ends.{has_order, AreRow, front_of, cons_if, gathered, HandsOver}
use Rattle.well_shaped.specs.Laws.{HandsOverLess}
use Rattle.well_shaped.specs.Sections.{given}
use Rattle.well_shaped.specs.StateShape.{AreEach, IfSet}
use Rattle.well_shaped.proofs.BelowFacts.{given_below, same_below}
use Rattle.well_shaped.proofs.FrameFacts.{as_many, each_at}

-- ---- the filter

below_truth : (s : Shape) → IsBelow s Truth → s ≡ Truth
below_truth Truth h = refl
below_truth s h = absurd h

pub filter_below : (values : List Shape) → AreEach IsBelow values (Truth ∷ []) → values ≡ Truth ∷ []
filter_below [] each = absurd each
filter_below (s ∷ []) each = ap (λ t. t ∷ []) (below_truth s each.0)
filter_below (s ∷ t ∷ values) each = absurd each.1

-- ---- rows

ranked_alike : (s t : Shape) → IsBelow s t → is_ranked s ≡ is_ranked t
ranked_alike = below_cases (λ s t. is_ranked s ≡ is_ranked t) (record {
  truth = refl;
  text = refl;
  day = refl;
  set = refl;
  number = λ p m n h. refl;
  amount = λ p m n h. refl;
  position = λ u v w z h g. refl;
  inventory = λ p u v w z h g. refl;
})

order_below : (x y : Option Shape) → IfSet IsBelow x y → has_order y ≡ true → has_order x ≡ true
order_below x None h e = absurd (false≢true e)
order_below None (Some t) h e = absurd h
order_below (Some s) (Some t) h e = ranked_alike s t h ∙ e

ordered_below : (values more : List Shape) → AreEach IsBelow values more → (order : List ℕ)
    → list_all (λ k. has_order (slice_get more k)) order ≡ true
    → list_all (λ k. has_order (slice_get values k)) order ≡ true
ordered_below values more each [] e = refl
ordered_below values more each (k ∷ order) e =
    let both = and_parts (has_order (slice_get more k))
    (list_all (λ k. has_order (slice_get more k)) order) e in
    and_from (has_order (slice_get values k)) (list_all (λ k. has_order (slice_get values k)) order)
    (order_below (slice_get values k) (slice_get more k) (each_at IsBelow values more k each)
    both.0)
    (ordered_below values more each order both.1)

pub row_below : (o : Output) (values more : List Shape) → AreEach IsBelow values more
    → AreRow o more → AreRow o values
row_below o values more each row = record {
  as_many = as_many IsBelow values more each ∙ row.as_many;
  ordered = ordered_below values more each o.order row.ordered;
}

-- ---- groups

cons_below : (x y : Option Shape) (xs ys : Option (List Shape)) → IfSet IsBelow x y
    → IfSet (AreEach IsBelow) xs ys → IfSet (AreEach IsBelow) (cons_if x xs) (cons_if y ys)
cons_below x None xs ys h each = tt
cons_below None (Some t) xs ys h each = absurd h
cons_below (Some s) (Some t) xs None h each = tt
cons_below (Some s) (Some t) None (Some ys) h each = absurd each
cons_below (Some s) (Some t) (Some xs) (Some ys) h each = (h, each)

abbrev GathersLess : ℕ → List Aggregate → Type 0
GathersLess n aggregates =
    (inputs more : List Shape) → AreEach IsBelow inputs more
    → IfSet (AreEach IsBelow) (gathered n aggregates inputs) (gathered n aggregates more)

front_below : (n : ℕ) (a : Aggregate) (aggregates : List Aggregate) → GathersLess n aggregates
    → (inputs more : List Shape) → AreEach IsBelow inputs more
    → IfSet (AreEach IsBelow)
    (option_and_then
    (λ i. cons_if (given (aggregate_shape n a (Some i.0))) (gathered n aggregates i.1))
    (front_of inputs))
    (option_and_then
    (λ i. cons_if (given (aggregate_shape n a (Some i.0))) (gathered n aggregates i.1))
    (front_of more))
front_below n a aggregates rest inputs [] each = tt
front_below n a aggregates rest [] (t ∷ more) each = absurd each
front_below n a aggregates rest (s ∷ inputs) (t ∷ more) each =
    cons_below (given (aggregate_shape n a (Some s))) (given (aggregate_shape n a (Some t)))
    (gathered n aggregates inputs) (gathered n aggregates more)
    (given_below (aggregate_shape n a (Some s)) (aggregate_shape n a (Some t))
    (gathers_rise a n n s t (omega arith) each.0))
    (rest inputs more each.1)

gathered_below : (n : ℕ) (aggregates : List Aggregate) → GathersLess n aggregates
gathered_below n [] inputs (t ∷ more) each = tt
gathered_below n [] [] [] each = tt
gathered_below n [] (s ∷ inputs) [] each = absurd each
gathered_below n (CountRows ∷ aggregates) inputs more each =
    cons_below (given (aggregate_shape n CountRows None)) (given (aggregate_shape n CountRows None))
    (gathered n aggregates inputs) (gathered n aggregates more)
    (same_below (given (aggregate_shape n CountRows None)))
    (gathered_below n aggregates inputs more each)
gathered_below n (a ∷ aggregates) inputs more each =
    front_below n a aggregates (gathered_below n aggregates) inputs more each

-- the shapes below two lists one behind the other
record Parted (values keys inputs : List Shape) : Type 0 where
  pub low_keys : List Shape
  pub low_inputs : List Shape
  pub are : values ≡ low_keys ++ low_inputs
  pub keys_below : AreEach IsBelow low_keys keys
  pub inputs_below : AreEach IsBelow low_inputs inputs

parted : (values keys inputs : List Shape) → AreEach IsBelow values (keys ++ inputs)
    → Parted values keys inputs
parted values [] inputs each = record {
  low_keys = [];
  low_inputs = values;
  are = refl;
  keys_below = tt;
  inputs_below = each;
}
parted [] (t ∷ keys) inputs each = absurd each
parted (s ∷ values) (t ∷ keys) inputs each =
    let rest = parted values keys inputs each.1 in
    record {
      low_keys = s ∷ rest.low_keys;
      low_inputs = rest.low_inputs;
      are = ap (λ xs. s ∷ xs) rest.are;
      keys_below = (each.0, rest.keys_below);
      inputs_below = rest.inputs_below;
    }

-- what is gathered of lesser inputs
record Gathers (n : ℕ) (c : Code) (inputs totals : List Shape) : Type 0 where
  pub low_totals : List Shape
  pub are : gathered n c.aggregates inputs ≡ Some low_totals
  pub below : AreEach IsBelow low_totals totals

gathers : (n : ℕ) (c : Code) (inputs more totals : List Shape) → AreEach IsBelow inputs more
    → gathered n c.aggregates more ≡ Some totals → Gathers n c inputs totals
gathers n c inputs more totals each e =
    by (gathered n c.aggregates inputs) refl
    (subst (λ o. IfSet (AreEach IsBelow) (gathered n c.aggregates inputs) o) e
    (gathered_below n c.aggregates inputs more each))
  where
    by : (o : Option (List Shape)) → gathered n c.aggregates inputs ≡ o
        → IfSet (AreEach IsBelow) o (Some totals) → Gathers n c inputs totals
    by None are below = absurd below
    by (Some low) are below = record { low_totals = low; are = are; below = below }

pub groups_below : (n : ℕ) (c : Code) (values more keys totals : List Shape)
    → AreEach IsBelow values more → HandsOver n c more keys totals
    → HandsOverLess n c values keys totals
groups_below n c values more keys totals each handed =
    let low = parted values keys handed.inputs
    (subst (λ xs. AreEach IsBelow values xs) handed.are each) in
    let all = gathers n c low.low_inputs handed.inputs totals low.inputs_below handed.gather in
    record {
      less_keys = low.low_keys;
      less_totals = all.low_totals;
      handed = record {
        inputs = low.low_inputs;
        are = low.are;
        as_many = as_many IsBelow low.low_keys keys low.keys_below ∙ handed.as_many;
        gather = all.are;
      };
      keys_below = low.keys_below;
      totals_below = all.below;
    }
