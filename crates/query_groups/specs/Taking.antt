-- One aggregate takes its input.
use Rattle.std.specs.Prelude.{Bool, true, false, List, Option, option_map, option_and_then}
use Rattle.plain_machine.specs.Gathering.{next_input, with_value}
use Rattle.query_values.specs.declared.operation.Aggregate.{Aggregate}
use Rattle.query_values.specs.declared.operation.Aggregate.TheVariants.{CountRows}
use Rattle.query_values.specs.declared.value.Value.{Value}

-- rows are counted without an input
abbrev pub counts_rows : Aggregate → Bool
counts_rows CountRows = true
counts_rows a = false

-- what is gathered then, and the inputs that are left for the others
abbrev pub taking : Aggregate → Value → List Value → Option (Value × List Value)
taking a t inputs =
    option_and_then (λ i. option_map (λ u. (u, i.1)) (with_value a t i.0)) (next_input a inputs)
