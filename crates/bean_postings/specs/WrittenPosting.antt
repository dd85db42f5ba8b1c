-- Postings as they are kept.
use Rattle.std.specs.Prelude.{ℕ, ℤ, pos, ◌<◌, ◌^◌, List}
use Rattle.std.specs.Int.RustNames.{unsigned_abs}
use Rattle.bean_base.specs.Decimal.{IsLedger}
use Rattle.bean_base.specs.declared.num.Num.{Num}
use Rattle.bean_grammar.specs.declared.metadata.MetaEntry.{MetaEntry}
use Rattle.bean_postings.specs.Details as details
use Rattle.bean_postings.specs.declared.details.DetailParts.{DetailParts}
use Rattle.bean_postings.specs.declared.posting.Posting.{Posting}
use Rattle.bean_postings.specs.declared.posting.Units.{Units}
use Rattle.bean_postings.specs.declared.posting.Units.TheVariants as units
use Rattle.bean_postings.specs.declared.written_posting.Kept.{Kept}
use Rattle.bean_postings.specs.declared.written_posting.Kept.TheVariants as kept

-- the number that is kept at hand; none is as 0
abbrev pub count_in : Kept → ℤ
count_in (kept.Amount places line count currency) = count
count_in (kept.Missing line) = pos 0
count_in (kept.Whole rest) = pos 0

abbrev pub places_in : Kept → ℕ
places_in (kept.Amount places line count currency) = places
places_in (kept.Missing line) = 0
places_in (kept.Whole rest) = 0

-- it is one of a ledger
abbrev pub IsInRange : Kept → Type 0
IsInRange k = IsLedger (count_in k) (places_in k)

abbrev pub IsSmall : Kept → Type 0
IsSmall k = unsigned_abs (count_in k) < 10 ^ 20

abbrev pub units_in : (k : Kept) → IsInRange k → IsSmall k → Units
units_in (kept.Amount places line count currency) in_range small =
    units.Amount record {
      number = record { count = count; places = places; in_range = in_range; small = small };
      currency = currency;
    }
units_in (kept.Missing line) in_range small = units.Missing
units_in (kept.Whole rest) in_range small = rest.units

abbrev pub details_in : Kept → DetailParts
details_in (kept.Amount places line count currency) = details.alone line
details_in (kept.Missing line) = details.alone line
details_in (kept.Whole rest) = rest.details

-- a posting of an amount, with nothing else but its line
abbrev pub of_amount : ℕ → List ℕ → Num → List ℕ → Posting
of_amount line account number currency = record {
  units = units.Amount record { number = number; currency = currency };
  account = account;
  details = details.alone line;
}

-- the same without an amount
abbrev pub without_amount : ℕ → List ℕ → Posting
without_amount line account = record {
  units = units.Missing;
  account = account;
  details = details.alone line;
}

-- with one more entry under it
abbrev pub with_entry : Posting → MetaEntry → Posting
with_entry p e = record p { details = details.with_entry p.details e }
