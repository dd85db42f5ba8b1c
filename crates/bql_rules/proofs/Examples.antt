-- Worked shapes.
use Rattle.std.proofs.Common.{◌≡◌, ◌^◌, ◌-◌, ◌*◌, ◌+◌, [], ◌∷◌, Ok, Err, refl}
use Rattle.limits.specs.declared.bounds.Bounds.{Bounds}
use Rattle.limits.specs.declared.bounds.Version.TheVariants.{First}
use Rattle.query_terms.specs.declared.column.Column.TheVariants as column
use Rattle.bql_tree.specs.declared.function.Function.TheVariants.{Cost, Sum, OneOf, Units}
use Rattle.bql_tree.specs.declared.tree.BinaryOperator.TheVariants.{Times, Plus}
use Rattle.query_rows.specs.declared.shape.Misfit.TheVariants.{Kind, TooWide}
use Rattle.query_rows.specs.declared.shape.Shape.{Shape}
use Rattle.query_rows.specs.declared.shape.Shape.TheVariants.{Truth, Text, Number}
use Rattle.query_rows.specs.declared.shape.Shape.TheVariants.{Inventory}
use Rattle.bql_rules.specs.Rules.{binary_shape, call_shape}
use Rattle.query_rows.specs.ColumnShape.{column_shape}

abbrev widest : Bounds
widest = record { schema = First; postings = 1000000; units_digits = 20; value_digits = 28 }

abbrev narrow : Bounds
narrow = record { schema = First; postings = 1000000; units_digits = 14; value_digits = 28 }

-- number * number
too_wide_product :
    binary_shape Times (column_shape widest column.Number) (column_shape widest column.Number)
    ≡ Err TooWide
too_wide_product = refl

narrow_product :
    binary_shape Times (column_shape narrow column.Number) (column_shape narrow column.Number)
    ≡ Ok (Number 16 ((10 ^ 14 - 1) * (10 ^ 14 - 1)))
narrow_product = refl

abbrev all_positions : Shape
all_positions = Inventory 8 (1000000 * (10 ^ 20 - 1)) (1000000 * (10 ^ 28 - 1))

-- cost(sum(position)) can be held, and its cost can't
sum_of_positions :
    call_shape widest Sum (column_shape widest column.Position ∷ []) ≡ Ok all_positions
sum_of_positions = refl

abbrev all_costs : Shape
all_costs = Inventory 16
    (1000000 * (10 ^ 28 - 1) + 1000000 * (10 ^ 20 - 1) * 10 ^ 8) 0

cost_of_sum : call_shape widest Cost (all_positions ∷ []) ≡ Ok all_costs
cost_of_sum = refl

cost_of_cost : call_shape widest Cost (all_costs ∷ []) ≡ Err TooWide
cost_of_cost = refl

-- numbers of different decimals are brought to the greater count
aligned_sum : binary_shape Plus (Number 2 7) (Number 0 9) ≡ Ok (Number 2 907)
aligned_sum = refl

mixed_list : call_shape widest OneOf (Text ∷ Number 0 1 ∷ []) ≡ Err Kind
mixed_list = refl

list_of_numbers : call_shape widest OneOf (Number 8 5 ∷ Number 0 1 ∷ []) ≡ Ok Truth
list_of_numbers = refl

list_that_alignment_drives_out :
    call_shape widest OneOf (Number 32 1 ∷ Number 0 (10 ^ 9) ∷ []) ≡ Err TooWide
list_that_alignment_drives_out = refl

no_units_of_a_text : call_shape widest Units (Text ∷ []) ≡ Err Kind
no_units_of_a_text = refl

two_arguments : call_shape widest Units (Text ∷ Text ∷ []) ≡ Err Kind
two_arguments = refl
