-- What is booked with few details, beside what is booked with all of them.
use Rattle.std.specs.Prelude.{◌≡◌, map, Err}
use Rattle.bean_replay.specs.declared.cause.BookCause.{BookCause}
use Rattle.refusals.specs.declared.refusal.Refusal.{Refusal}
use Rattle.bean_loaded.specs.Loaded.{Loaded}
use Rattle.posting_entries.specs.declared.entry.EntryParts.{EntryParts}
use Rattle.posting_table.specs.declared.row.Row.{Row}
use Rattle.bean_book.specs.Booked.{Books, IsBookOf}
use Rattle.bean_book.specs.Details.{accounts_told, told}
use Rattle.bean_book.specs.Book.{Book}
use Rattle.bean_book.specs.declared.details.Details.{Details}
use Rattle.bean_book.specs.declared.details.Details.TheVariants.{All}

-- what is told of this, and all else as it is

abbrev pub entry_told : Details → EntryParts → EntryParts
entry_told details e = record {
  payee = e.payee;
  narration = e.narration;
  tags = told details e.tags;
  links = told details e.links;
  accounts = accounts_told details e.accounts;
  metadata = told details e.metadata;
  date = e.date;
  flag = e.flag;
}

abbrev pub row_told : Details → Row → Row
row_told details r = record {
  entry = entry_told details r.entry;
  account = r.account;
  position = r.position;
  weight = r.weight;
  price = r.price;
  metadata = told details r.metadata;
  line = r.line;
  flag = r.flag;
}

-- one has what is told of the postings of the other, and the same decimals and faults
pub record IsToldOf (details : Details) (bare whole : Book) : Type 0 where
  pub rows : bare.ledger.rows ≡ map (row_told details) whole.ledger.rows
  pub decimals : bare.ledger.decimals ≡ whole.ledger.decimals
  pub faults : bare.faults ≡ whole.faults

-- what is booked with so much told is what is booked with all told, but for what isn't
abbrev pub OnlyDetailsAreLeftOut : Type 0
OnlyDetailsAreLeftOut =
    (details : Details) (l : Loaded) (bare : Book) → IsBookOf details l bare
    → (whole : Book) × IsBookOf All l whole × IsToldOf details bare whole

-- and nothing is refused with some details that isn't with any others
abbrev pub DetailsRefuseNothing : Type 0
DetailsRefuseNothing =
    (a b : Details) (l : Loaded) (fault : Refusal BookCause)
    → Books a l (Err fault) → Books b l (Err fault)
