-- Which plans can be lowered: all that they compute is small and has shapes.
use Rattle.std.specs.Prelude.{ℕ, ◌≤◌, List, length, IfSome}
use Rattle.std.specs.List.{AllByRecursion}
use Rattle.limits.specs.declared.bounds.Bounds.{Bounds}
use Rattle.limits.specs.declared.counts.TheConstants.{MOST_ITEMS}
use Rattle.bql_lowering.specs.Listed.{HasShape}
use Rattle.bql_parser.specs.Asked.{Asked}
use Rattle.bql_parser.specs.Small.{IsSmallTree}
use Rattle.bql_plan.specs.Plan.{Plan}
use Rattle.bql_compiler.specs.Program.{inputs_in}
use Rattle.bql_tree.specs.Tree.{Tree}

abbrev pub Lowers : Bounds → Tree ℕ → Type 0
Lowers b t = IsSmallTree t × HasShape b t

abbrev pub AllLower : Bounds → List (Tree ℕ) → Type 0
AllLower b ts = AllByRecursion (Lowers b) ts

-- all that a plan of a query computes
pub record CanBeLowered (b : Bounds) (q : Asked) (p : Plan) : Type 0 where
  pub from : IfSome q.filters.from (Lowers b)
  pub filter : IfSome q.filters.filter (Lowers b)
  pub shown : AllLower b p.shown
  pub keys : AllLower b p.grouping.keys
  pub inputs : AllLower b (inputs_in p.aggregates)
  pub few : length p.grouping.keys ≤ MOST_ITEMS
