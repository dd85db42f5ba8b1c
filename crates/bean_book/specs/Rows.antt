-- The rows of what is booked.
use Rattle.std.specs.Prelude.{ℕ, ℤ, pos, ◌*ℤ◌, neg_ℤ, ◌^◌, List, [], ◌∷◌, codes, map, slice_get}
use Rattle.std.specs.Prelude.{Option, Some, None}
use Rattle.std.specs.List.{flat_map}
use Rattle.std.specs.Option.{option_and_then}
use Rattle.bean_base.specs.declared.amounts.Amount.{Amount}
use Rattle.bean_base.specs.declared.flags.Flag.{Flag}
use Rattle.bean_grammar.specs.declared.mark.Mark.{Mark}
use Rattle.bean_grammar.specs.declared.mark.Mark.TheVariants.{Tag, Link}
use Rattle.bean_postings.specs.declared.posting.Posting.{Posting}
use Rattle.bean_postings.specs.declared.price.Price as prices
use Rattle.bean_postings.specs.declared.price.Price.TheVariants.{PerUnit}
use Rattle.bean_postings.specs.declared.posting.Units.{Units}
use Rattle.bean_postings.specs.declared.posting.Units.TheVariants as units
use Rattle.bean_base.specs.Counts.{at_8}
use Rattle.bean_interp.specs.Weight.{currency_of, weight_of}
use Rattle.bean_interp.specs.declared.leg.Whole.{Whole}
use Rattle.bean_lots.specs.declared.lot.Position.{Position}
use Rattle.bean_pad.specs.declared.note.Note.{Note}
use Rattle.bean_pad.specs.declared.note.NotedPad.{NotedPad}
use Rattle.bean_pad.specs.declared.note.Outcome as outcomes
use Rattle.bean_pad.specs.declared.note.Outcome.TheVariants as outcome
use Rattle.bean_transactions.specs.Tried.{whole_at}
use Rattle.bean_holdings.specs.declared.posted.Posted.{Posted}
use Rattle.posting_entries.specs.declared.entry.EntryParts.{EntryParts}
use Rattle.posting_entries.specs.declared.entry.EntryFlag.TheVariants.{Written, Padding}
use Rattle.posting_entries.specs.declared.metadata.MetaItem.{MetaItem}
use Rattle.posting_table.specs.declared.row.Row.{Row}
use Rattle.posting_table.specs.declared.row.Weight.{Weight}
use Rattle.query_values.specs.TextSet.{set_of}
use Rattle.bean_replay.specs.declared.booking.Booking.{Booking}
use Rattle.bean_replay.specs.declared.booking.Booking.TheVariants as booking
use Rattle.bean_replay.specs.declared.booking.Kept.{Kept}
use Rattle.bean_book.specs.Details.{accounts_told, told}
use Rattle.bean_book.specs.Metadata.{items_of}
use Rattle.bean_book.specs.declared.details.Details.{Details}

-- ---- transactions

abbrev pub tag_in : Mark → List (List ℕ)
tag_in (Tag name) = name ∷ []
tag_in (Link name) = []

abbrev pub link_in : Mark → List (List ℕ)
link_in (Tag name) = []
link_in (Link name) = name ∷ []

-- what the postings of a transaction have in common, as far as it is told
abbrev pub entry_of : Details → Kept → EntryParts
entry_of details k = record {
  payee = k.written.transaction.payee;
  narration = k.written.transaction.narration;
  tags = set_of (flat_map tag_in (told details k.written.transaction.marks));
  links = set_of (flat_map link_in (told details k.written.transaction.marks));
  accounts = set_of (accounts_told details (map (λ p. p.account) k.postings));
  metadata = items_of (told details k.written.metadata);
  date = k.written.day;
  flag = Written k.written.transaction.flag;
}

-- what a booked posting has from the one that it was written as

abbrev pub flag_in : Option Posting → Option Flag
flag_in written = option_and_then (λ w. w.details.flag) written

abbrev pub line_in : ℕ → Option Posting → ℕ
line_in line None = line
line_in line (Some w) = w.details.line

-- its metadata, where it is told
abbrev pub items_in : Details → Option Posting → List MetaItem
items_in details None = []
items_in details (Some w) = items_of (told details w.details.metadata)

-- what a unit is priced at
abbrev pub unit_price : prices.Price → Option Amount
unit_price (PerUnit amount) = Some amount
unit_price other = None

abbrev pub price_in : Option Posting → Option Amount
price_in written = option_and_then (λ w. unit_price w.details.price) written

abbrev pub position_of : Posted → Position
position_of p = record {
  key = record { currency = p.units.currency; lot = p.lot };
  count = at_8 p.units.number;
}

abbrev pub weight_by : Whole → Weight
weight_by w = record { count = weight_of w; currency = currency_of w.units w.worth }

-- the row of a booked posting that has this metadata
abbrev pub row_by : EntryParts → ℕ → List MetaItem → Option Posting → Posted → Row
row_by e line items written p = record {
  entry = e;
  account = p.account;
  position = position_of p;
  weight = weight_by (whole_at written p);
  price = price_in written;
  metadata = items;
  line = line_in line written;
  flag = flag_in written;
}

abbrev pub row_of : Details → EntryParts → ℕ → List Posting → Posted → Row
row_of details e line ps p =
    row_by e line (items_in details (slice_get ps p.written)) (slice_get ps p.written) p

-- the rows of a transaction whose postings have this in common
abbrev pub rows_with : Details → EntryParts → Kept → List Row
rows_with details e k =
    map (row_of details e k.written.place.line k.written.transaction.postings) k.postings

abbrev pub rows_of_transaction : Details → Kept → List Row
rows_of_transaction details k = rows_with details (entry_of details k) k

-- ---- paddings

abbrev pub padding_entry : Details → NotedPad → EntryParts
padding_entry details n = record {
  payee = None;
  narration = codes "Padding";
  tags = [];
  links = [];
  accounts = set_of (accounts_told details (n.pad.account ∷ n.pad.source ∷ []));
  metadata = [];
  date = n.day;
  flag = Padding;
}

-- so much in an account, as a count of 10^-8
abbrev pub padding_row : EntryParts → NotedPad → List ℕ → List ℕ → ℤ → Row
padding_row e n account currency count = record {
  entry = e;
  account = account;
  position = record { key = record { currency = currency; lot = None }; count = count };
  weight = record { count = count *ℤ pos (10 ^ 8); currency = currency };
  price = None;
  metadata = [];
  line = n.place.line;
  flag = None;
}

-- what is inserted goes to the account, and comes from the source
abbrev pub rows_by : EntryParts → NotedPad → List ℕ → outcomes.Outcome → List Row
rows_by e n currency (outcome.Padding number) =
    padding_row e n n.pad.account currency (at_8 number)
    ∷ padding_row e n n.pad.source currency (neg_ℤ (at_8 number)) ∷ []
rows_by e n currency other = []

abbrev pub rows_of_note : EntryParts → NotedPad → Note → List Row
rows_of_note e n note = rows_by e n note.currency note.outcome

abbrev pub rows_of_pad : Details → NotedPad → List Row
rows_of_pad details n = flat_map (rows_of_note (padding_entry details n) n) n.notes

-- ---- both

abbrev pub rows_of : Details → Booking → List Row
rows_of details (booking.Transaction k) = rows_of_transaction details k
rows_of details (booking.Pad n) = rows_of_pad details n

-- ---- written numbers

abbrev pub amount_in : Units → List Amount
amount_in (units.Amount a) = a ∷ []
amount_in u = []

abbrev pub written_in : Posting → List Amount
written_in p = amount_in p.units

-- the numbers that are written for units
abbrev pub written_of : Booking → List Amount
written_of (booking.Transaction k) = flat_map written_in k.written.transaction.postings
written_of (booking.Pad n) = []
