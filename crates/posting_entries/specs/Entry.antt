-- What the postings of a transaction have in common, in the columns of queries.
use Rattle.std.specs.Prelude.{ℕ, List, [], codes}
use Rattle.std.specs.Int.RustNames.{unsigned_abs}
use Rattle.bean_base.specs.Flag.{spelling}
use Rattle.posting_entries.specs.declared.entry.EntryParts.{EntryParts}
use Rattle.posting_entries.specs.declared.entry.PlainParts.{PlainParts}
use Rattle.posting_entries.specs.declared.entry.EntryFlag.{EntryFlag}
use Rattle.posting_entries.specs.declared.entry.EntryFlag.TheVariants.{Written, Padding}
use Rattle.query_terms.specs.declared.column.Column.{Column}
use Rattle.query_terms.specs.declared.column.Column.TheVariants as column
use Rattle.query_rows.specs.Row.{text_or_null}
use Rattle.query_values.specs.Operation.{whole}
use Rattle.query_values.specs.declared.value.Value.{Value}
use Rattle.query_values.specs.declared.value.Value.TheVariants.{Null, Text, Day, Set}

-- the parts of a transaction that has nothing of what few have
abbrev pub plain_parts : PlainParts → EntryParts
plain_parts p = record {
  payee = p.payee;
  narration = p.narration;
  tags = [];
  links = [];
  accounts = p.accounts;
  metadata = [];
  date = p.date;
  flag = p.flag;
}

-- how a table shows the flag of a transaction
abbrev pub entry_spelling : EntryFlag → List ℕ
entry_spelling (Written flag) = spelling flag
entry_spelling Padding = codes "P"

-- a transaction in one of its columns; null in any other
abbrev pub entry_cell : EntryParts → Column → Value
entry_cell e column.Date = Day e.date
entry_cell e column.Year = whole (unsigned_abs e.date.date.year)
entry_cell e column.Month = whole e.date.date.month
entry_cell e column.Day = whole e.date.date.day
entry_cell e column.Flag = Text (entry_spelling e.flag)
entry_cell e column.Payee = text_or_null e.payee
entry_cell e column.Narration = Text e.narration
entry_cell e column.Tags = Set e.tags
entry_cell e column.Links = Set e.links
entry_cell e column.Accounts = Set e.accounts
entry_cell e c = Null
