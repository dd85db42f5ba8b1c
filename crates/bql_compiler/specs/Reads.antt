-- What is loaded where an expression is computed is what it reads of some rows.
use Rattle.std.specs.Prelude.{◌≡◌, ℕ, true, List, Option, Some, option_map, slice_get}
use Rattle.limits.specs.declared.bounds.Bounds.{Bounds}
use Rattle.bql_lowering.specs.Lowered.{Gathered, has}
use Rattle.bql_meaning.specs.Meaning.{value_of}
use Rattle.bql_meaning.specs.Reading.{Reading, at_first, cell, text}
use Rattle.bql_plan.specs.Plan.{index_of}
use Rattle.bql_tree.specs.Tree.{Tree}
use Rattle.bql_tree.specs.declared.tree.MetadataOwner.{MetadataOwner}
use Rattle.plain_machine.specs.Loading.{Loads, cell_in}
use Rattle.query_terms.specs.declared.column.Column.{Column}
use Rattle.query_values.specs.declared.value.Value.{Value}

-- it is this value, or there is none
abbrev pub IsOrNone : Option Value → Value → Type 0
IsOrNone o x = (v : Value) → o ≡ Some v → x ≡ v

-- Cells and texts of metadata are those of the first row; keys and aggregates have over the rows the
-- values of their expressions. What isn't loaded may be anything.
pub record Reads (b : Bounds) (g : Gathered) (l : Loads) (rows : List Reading) : Type 0 where
  pub cells : (c : Column) → IsOrNone (cell_in l c) (at_first (cell c) rows)
  pub texts : (owner : MetadataOwner) (key : List ℕ)
      → IsOrNone (option_map (text owner key) l.row) (at_first (λ r. text owner key r.row) rows)
  pub keys : (t : Tree ℕ) → has g.keys t ≡ true
      → IsOrNone (slice_get l.keys (index_of g.keys t)) (value_of b rows t)
  pub aggregates : (t : Tree ℕ) → has g.aggregates t ≡ true
      → IsOrNone (slice_get l.aggregates (index_of g.aggregates t)) (value_of b rows t)
