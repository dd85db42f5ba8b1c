-- What an expression reads: the cells and the metadata of the first of some rows.
use Rattle.std.specs.Prelude.{ℕ, List, [], ◌∷◌}
use Rattle.bql_tree.specs.declared.tree.MetadataOwner as entry
use Rattle.bql_tree.specs.declared.tree.MetadataOwner.TheVariants.{Posting, Transaction, Any}
use Rattle.query_rows.specs.Row.{Row, posting_text, transaction_text, any_text}
use Rattle.query_terms.specs.declared.column.Column.{Column}
use Rattle.query_terms.specs.declared.column.Column.TheVariants as column
use Rattle.query_values.specs.declared.value.Value.{Value}
use Rattle.query_values.specs.declared.value.Value.TheVariants.{Null}

-- a row, and the running inventory at it
pub record Reading : Type 0 where
  pub row : Row
  pub balance : Value

abbrev pub cell : Column → Reading → Value
cell column.Balance r = r.balance
cell c r = r.row.cell c

-- the text of a key of metadata
abbrev pub text : entry.MetadataOwner → List ℕ → Row → Value
text Posting key r = posting_text key r
text Transaction key r = transaction_text key r
text Any key r = any_text key r

-- of the first row
abbrev pub at_first : (Reading → Value) → List Reading → Value
at_first f [] = Null
at_first f (r ∷ rs) = f r
