-- A row of a ledger, as queries see it: what a posting has in each column, its metadata, and that of
-- its transaction.
use Rattle.std.specs.Prelude.{ℕ, List, [], ◌∷◌, bytes_eq, Option, Some, None, if◌then◌else◌}
use Rattle.query_terms.specs.declared.column.Column.{Column}
use Rattle.query_values.specs.Order.{is_null}
use Rattle.query_values.specs.declared.value.Value.{Value}
use Rattle.query_values.specs.declared.value.Value.TheVariants.{Null, Text}

-- a key of metadata with its text, or with nothing behind it
pub record MetaText : Type 0 where
  pub key : List ℕ
  pub text : Option (List ℕ)

-- a row has a cell in every column; the running inventory at it is none of its own
pub record Row : Type 0 where
  pub cell : Column → Value
  pub posting_entries : List MetaText
  pub transaction_entries : List MetaText

-- the text of the first entry of a key; none where nothing stands behind it, or no entry is of it
abbrev pub text_under : List ℕ → List MetaText → Option (List ℕ)
text_under key [] = None
text_under key (e ∷ es) = if bytes_eq key e.key then e.text else text_under key es

abbrev pub text_or_null : Option (List ℕ) → Value
text_or_null None = Null
text_or_null (Some text) = Text text

abbrev pub posting_text : List ℕ → Row → Value
posting_text key r = text_or_null (text_under key r.posting_entries)

abbrev pub transaction_text : List ℕ → Row → Value
transaction_text key r = text_or_null (text_under key r.transaction_entries)

-- the posting's, else the transaction's
abbrev pub any_text : List ℕ → Row → Value
any_text key r =
    if is_null (posting_text key r) then transaction_text key r else posting_text key r
