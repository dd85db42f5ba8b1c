-- What is known of a row by the bounds of its ledger.
use Rattle.std.specs.Prelude.{◌≡◌, true, ℕ, List, Option, Some, None, ⊤}
use Rattle.std.specs.List.{AllByRecursion}
use Rattle.limits.specs.declared.bounds.Bounds.{Bounds}
use Rattle.query_terms.specs.Column.{is_in}
use Rattle.query_rows.specs.ColumnShape.{column_shape}
use Rattle.query_terms.specs.declared.column.Column.{Column}
use Rattle.query_rows.specs.Shape.{IsShort, LiesIn}
use Rattle.query_rows.specs.declared.shape.Shape.TheVariants.{Text}
use Rattle.query_rows.specs.Row.{MetaText, Row, posting_text, transaction_text, any_text}

-- a text, where there is one, is short
abbrev pub IsShortIfThere : Option (List ℕ) → Type 0
IsShortIfThere None = ⊤
IsShortIfThere (Some text) = IsShort text

abbrev pub AreShort : List MetaText → Type 0
AreShort = AllByRecursion (λ (e : MetaText). IsShortIfThere e.text)

-- each cell of the schema's columns lies in the shape of its column, and each text of metadata in
-- that of texts
pub record IsShaped (b : Bounds) (r : Row) : Type 0 where
  pub cells : (c : Column) → is_in b.schema c ≡ true → LiesIn (r.cell c) (column_shape b c)
  pub posting_texts : AreShort r.posting_entries
  pub transaction_texts : AreShort r.transaction_entries

-- whatever is read of metadata is of the shape of texts
pub record TextsLieIn (r : Row) : Type 0 where
  pub posting : (key : List ℕ) → LiesIn (posting_text key r) Text
  pub transaction : (key : List ℕ) → LiesIn (transaction_text key r) Text
  pub any : (key : List ℕ) → LiesIn (any_text key r) Text

abbrev pub ShapedRowsHaveShortTexts : Type 0
ShapedRowsHaveShortTexts = (b : Bounds) (r : Row) → IsShaped b r → TextsLieIn r
