-- The value of what a section is to compute. What can't be loaded, done or held has none.
use Rattle.std.specs.Prelude.{List, [], ◌∷◌, true, false, Option, Some, None}
use Rattle.std.specs.Prelude.{option_and_then, if◌then◌else◌}
use Rattle.bql_code.specs.Code.{load_of, change_of}
use Rattle.bql_code.specs.Core.{Core, loading, changing, joining, both, either}
use Rattle.plain_machine.specs.Gathering.{cons_if}
use Rattle.plain_machine.specs.Loading.{Loads, push_of, unary_of, binary_of}
use Rattle.query_code.specs.declared.program.Constant.{Constant}
use Rattle.query_values.specs.Operand.{is_truth}
use Rattle.query_values.specs.Operation.{is_true}
use Rattle.query_values.specs.declared.value.Value.{Value}
use Rattle.query_values.specs.declared.value.Value.TheVariants.{Truth}

-- a truth value, null as false
abbrev pub as_truth : Value → Option Value
as_truth x = if is_truth x then Some (Truth (is_true x)) else None

-- the second operand of AND and of OR is asked only where the first leaves it open
abbrev pub and_value : Option Value → Value → Option Value
and_value second x =
    if is_truth x
    then if is_true x then option_and_then as_truth second else Some (Truth false)
    else None

abbrev pub or_value : Option Value → Value → Option Value
or_value second x =
    if is_truth x
    then if is_true x then Some (Truth true) else option_and_then as_truth second
    else None

module _ (pool : List Constant) (l : Loads) where
  abbrev pub core_value : Core → Option Value
  core_value (loading op) = push_of pool l (load_of pool op)
  core_value (changing op x) = option_and_then (unary_of pool (change_of pool op)) (core_value x)
  core_value (joining op x y) =
      option_and_then (λ a. option_and_then (binary_of op a) (core_value y)) (core_value x)
  core_value (both x y) = option_and_then (and_value (core_value y)) (core_value x)
  core_value (either x y) = option_and_then (or_value (core_value y)) (core_value x)

  -- of each, where all have one
  abbrev pub core_values : List Core → Option (List Value)
  core_values [] = Some []
  core_values (x ∷ xs) = cons_if (core_value x) (core_values xs)
