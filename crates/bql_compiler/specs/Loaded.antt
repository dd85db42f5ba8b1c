-- What an expression reads may be loaded where it is computed.
use Rattle.std.specs.Prelude.{◌≡◌, ℕ, false, true, List, Some, ⊤}
use Rattle.limits.specs.declared.bounds.Bounds.{Bounds}
use Rattle.bql_lowering.specs.Lowered.{Gathered, has}
use Rattle.bql_plan.specs.Plan.{index_of}
use Rattle.bql_tree.specs.Tree.{Operation, leaf_of, Tree, node, Trees, no_trees, trees}
use Rattle.bql_tree.specs.declared.tree.Leaf.{Leaf}
use Rattle.bql_tree.specs.declared.tree.Leaf.TheVariants as leaf
use Rattle.bql_types.specs.Shaped.{shape_of}
use Rattle.bql_types.specs.Sought.{is_aggregate}
use Rattle.query_code.specs.declared.instruction.Push.TheVariants.{LoadAggregate, LoadKey}
use Rattle.query_code.specs.declared.program.Constant.{Constant}
use Rattle.query_rows.specs.ColumnShape.{column_shape}
use Rattle.query_terms.specs.declared.column.Column.TheVariants.{Accounts}
use Rattle.query_rows.specs.declared.shape.Shape.{Shape}
use Rattle.query_rows.specs.declared.shape.Shape.TheVariants.{Text}
use Rattle.well_shaped.specs.Sections.{Loads, push_of, shape_of as column_in, text_at}

module _ (b : Bounds) (l : Loads) where
  -- a column has the shape that the bounds give it; metadata are there where a posting is
  abbrev pub IsLeafLoaded : Leaf → Type 0
  IsLeafLoaded (leaf.Column c) = column_in l c ≡ Some (column_shape b c)
  IsLeafLoaded (leaf.Meta e k) = (key : List ℕ) → text_at l (Some key) ≡ Some Text
  IsLeafLoaded (leaf.HasAccount p) = column_in l Accounts ≡ Some (column_shape b Accounts)
  IsLeafLoaded lf = ⊤

  -- no aggregate is computed
  abbrev pub IsOperationLoaded : Operation → Type 0
  IsOperationLoaded (leaf_of lf) = (is_aggregate (leaf_of lf) ≡ false) × IsLeafLoaded lf
  IsOperationLoaded op = is_aggregate op ≡ false

  module _ (g : Gathered) where
    -- of all parts that are computed and are no key and no aggregate of a group
    abbrev mutual
      pub IsLoaded : Tree ℕ → Type 0
      IsLoaded (node at op parts) =
          has g.keys (node at op parts) ≡ false → has g.aggregates (node at op parts) ≡ false
          → IsOperationLoaded op × AreLoaded parts

      pub AreLoaded : Trees ℕ → Type 0
      AreLoaded no_trees = ⊤
      AreLoaded (trees t ts) = IsLoaded t × AreLoaded ts

    -- keys and aggregates of a group have the shapes of their expressions
    pub record AreGathered (pool : List Constant) : Type 0 where
      pub keys : (t : Tree ℕ) (s : Shape) → has g.keys t ≡ true → shape_of b t ≡ Some s
          → push_of pool l (LoadKey (index_of g.keys t)) ≡ Some s
      pub aggregates : (t : Tree ℕ) (s : Shape) → has g.aggregates t ≡ true
          → shape_of b t ≡ Some s
          → push_of pool l (LoadAggregate (index_of g.aggregates t)) ≡ Some s
