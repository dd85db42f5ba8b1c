-- Shapes of some queries, computed at the widest bounds: 1,000,000 postings, counts of 20 digits
-- and values of 28.
use Rattle.std.proofs.Common.{◌≡◌, ◌-◌, ◌*◌, ◌^◌, ◌+◌, Some, None, Ok, Err, refl}
use Rattle.query_values.specs.Unary as unary
use Rattle.query_values.specs.declared.operation.Aggregate.TheVariants.{CountRows, Max}
use Rattle.query_values.specs.declared.operation.Aggregate.TheVariants.{SumInventory}
use Rattle.query_values.specs.declared.operation.Binary.TheVariants.{Add, Equal, Less, Mul}
use Rattle.query_rows.specs.Rules.{aggregate_shape, binary_shape, unary_shape}
use Rattle.query_rows.specs.Shape.{joined}
use Rattle.query_rows.specs.declared.shape.Misfit.TheVariants.{Kind, TooWide}
use Rattle.query_rows.specs.declared.shape.Shape.{Shape}
use Rattle.query_rows.specs.declared.shape.Shape.TheVariants.{Amount, Day, Inventory, Number}
use Rattle.query_rows.specs.declared.shape.Shape.TheVariants.{Position, Text, Truth}

position : Shape
position = Position (10 ^ 20 - 1) (10 ^ 28 - 1)

number : Shape
number = Number 8 (10 ^ 20 - 1)

sum : Shape
sum = Inventory 8 (10 ^ 6 * (10 ^ 20 - 1)) (10 ^ 6 * (10 ^ 28 - 1))

cost : Shape
cost = Inventory 16 (10 ^ 6 * (10 ^ 28 - 1) + 10 ^ 6 * (10 ^ 20 - 1) * 10 ^ 8) 0

-- sum(position), its cost, and the cost of that
sums_fit : aggregate_shape (10 ^ 6) (SumInventory 8) (Some position) ≡ Ok sum
unfolding position sum
sums_fit = refl

costs_fit : unary_shape unary.Cost sum ≡ Ok cost
unfolding sum cost
costs_fit = refl

costs_of_costs_are_too_wide : unary_shape unary.Cost cost ≡ Err TooWide
unfolding cost
costs_of_costs_are_too_wide = refl

-- number * number is too wide; what 14 digits write isn't, and neither is its sum
squares_are_too_wide : binary_shape Mul number number ≡ Err TooWide
unfolding number
squares_are_too_wide = refl

squares_of_14_digits_fit :
    binary_shape Mul (Number 8 (10 ^ 14 - 1)) (Number 8 (10 ^ 14 - 1))
    ≡ Ok (Number 16 ((10 ^ 14 - 1) * (10 ^ 14 - 1)))
squares_of_14_digits_fit = refl

-- account + 1; numbers of other decimals; texts that are compared
no_sum_of_a_text : binary_shape Add Text (Number 0 1) ≡ Err Kind
no_sum_of_a_text = refl

no_sum_of_other_decimals : binary_shape Add (Number 2 5) (Number 0 1) ≡ Err Kind
no_sum_of_other_decimals = refl

texts_have_an_order : binary_shape Less Text Text ≡ Ok Truth
texts_have_an_order = refl

truths_have_none : binary_shape Less Truth Truth ≡ Err Kind
truths_have_none = refl

truths_are_compared : binary_shape Equal Truth Truth ≡ Ok Truth
truths_are_compared = refl

positions_have_no_greatest : aggregate_shape 9 Max (Some position) ≡ Err Kind
unfolding position
positions_have_no_greatest = refl

rows_are_counted : aggregate_shape (10 ^ 6) CountRows None ≡ Ok (Number 0 (10 ^ 6))
rows_are_counted = refl

aligned : unary_shape (unary.Align 8) (Number 2 5) ≡ Ok (Number 8 (5 * 10 ^ 6))
aligned = refl

units_of_a_position : unary_shape unary.Units position ≡ Ok (Amount 8 (10 ^ 20 - 1))
unfolding position
units_of_a_position = refl

numbers_join : joined (Number 2 5) (Number 2 7) ≡ Some (Number 2 7)
numbers_join = refl

days_join_no_texts : joined Day Text ≡ None
days_join_no_texts = refl
