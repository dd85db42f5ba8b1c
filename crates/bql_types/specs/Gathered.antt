-- Which aggregate an expression is.
use Rattle.std.specs.Prelude.{ℕ, false, List, [], ◌∷◌, Option, Some, None, unwrap_or}
use Rattle.limits.specs.declared.bounds.Bounds.{Bounds}
use Rattle.bql_rules.specs.Rules.{aggregate_for}
use Rattle.bql_tree.specs.Tree.{Operation, call_of, Tree, node}
use Rattle.bql_tree.specs.declared.function.Function.{Function}
use Rattle.bql_types.specs.Shaped.{shapes_of}
use Rattle.query_rows.specs.declared.shape.Shape.{Shape}
use Rattle.query_values.specs.declared.operation.Aggregate.{Aggregate}
use Rattle.query_values.specs.declared.operation.Aggregate.TheVariants as aggregate

-- the shape of the one part; none where there are none or more, or some have no shape
abbrev pub single : Option (List Shape) → Option Shape
single (Some (s ∷ [])) = Some s
single ss = None

-- numbers are summed to a number of the decimals that they have by their type, even where there are
-- none; amounts and positions to an inventory
abbrev pub of_call : Function → Option (List Shape) → Aggregate
of_call f ss = unwrap_or (aggregate_for f (single ss)) aggregate.CountRows

-- which aggregate it is, by the shapes of its parts; COUNT(*) alone has none
abbrev pub aggregate_by : Operation → Option (List Shape) → Aggregate
aggregate_by (call_of f) ss = of_call f ss
aggregate_by op ss = aggregate.CountRows

abbrev pub aggregate_in : Bounds → Tree ℕ → Aggregate
aggregate_in b (node at op parts) = aggregate_by op (shapes_of b false parts)
