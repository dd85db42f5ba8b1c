-- Plain rows are those of their postings.
use Rattle.std.proofs.Common.{◌≡◌, ℕ, pos, ◌*ℤ◌, ◌^◌, [], Some, refl, sym, ap, ◌∙◌}
use Rattle.bean_interp.proofs.CountFacts.{scaled_16}
use Rattle.bean_base.specs.Counts.{at_8}
use Rattle.bean_interp.specs.Weight.{count_of, currency_of}
use Rattle.bean_postings.specs.Details.{IsLineAlone}
use Rattle.bean_postings.specs.declared.posting.Posting.{Posting}
use Rattle.bean_transactions.specs.Tried.{worth_of}
use Rattle.bean_holdings.specs.declared.posted.Posted.{Posted}
use Rattle.posting_table.specs.Plain as plain
use Rattle.posting_entries.specs.declared.entry.EntryParts.{EntryParts}
use Rattle.bean_book.specs.Metadata.{items_of}
use Rattle.bean_book.specs.Plain.{IsPlain}
use Rattle.bean_book.specs.Rows.{items_in, row_by, unit_price}
use Rattle.bean_book.specs.declared.details.Details.{Details}
use Rattle.bean_book.specs.declared.details.Details.TheVariants.{All, ButAccounts, Few}

-- what units weigh by themselves
weighs : (w : Posting) (p : Posted) → IsPlain w p
    → at_8 p.units.number *ℤ pos (10 ^ 8) ≡ count_of p.units (worth_of p.lot w.details.price)
weighs w p h =
    let number = p.units.number in
    scaled_16 number.count number.places number.in_range.0
    ∙ (λ i. count_of p.units (worth_of (sym h.held i) (sym h.alone.price i)))

-- nothing is told of entries where there are none
no_items : (details : Details) (w : Posting) → IsLineAlone w.details
    → [] ≡ items_in details (Some w)
no_items All w h = ap items_of (sym h.metadata)
no_items ButAccounts w h = ap items_of (sym h.metadata)
no_items Few w h = refl

pub plain_is : (details : Details) (e : EntryParts) (line : ℕ) (w : Posting) (p : Posted)
    → IsPlain w p
    → plain.row_of (record {
      entry = e;
      account = p.account;
      currency = p.units.currency;
      count = at_8 p.units.number;
      line = w.details.line;
    }) ≡ row_by e line (items_in details (Some w)) (Some w) p
plain_is details e line w p h = λ i. record {
  entry = e;
  account = p.account;
  position = record {
    key = record { currency = p.units.currency; lot = sym h.held i };
    count = at_8 p.units.number;
  };
  weight = record {
    count = weighs w p h i;
    currency = currency_of p.units (worth_of (sym h.held i) (sym h.alone.price i));
  };
  price = unit_price (sym h.alone.price i);
  metadata = no_items details w h.alone i;
  line = w.details.line;
  flag = sym h.alone.flag i;
}
