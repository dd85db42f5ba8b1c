-- What of a line is small: its texts have no more bytes than a ledger's text may have.
use Rattle.std.specs.Prelude.{ℕ, ◌≤◌, List, length, IfSome}
use Rattle.std.specs.List.{AllByRecursion}
use Rattle.bean_postings.specs.declared.cost.Cost as costs
use Rattle.bean_postings.specs.declared.cost.Cost.TheVariants.{Lot}
use Rattle.bean_postings.specs.declared.cost.LotParts.{LotParts}
use Rattle.bean_grammar.specs.declared.mark.Mark as marks
use Rattle.bean_grammar.specs.declared.mark.Mark.TheVariants as mark
use Rattle.bean_grammar.specs.declared.metadata.MetaEntry.{MetaEntry}
use Rattle.bean_grammar.specs.declared.metadata.Value as values
use Rattle.bean_grammar.specs.declared.metadata.Value.TheVariants as value
use Rattle.bean_postings.specs.declared.posting.Posting.{Posting}
use Rattle.bean_postings.specs.declared.posting.Units as units_declared
use Rattle.bean_postings.specs.declared.posting.Units.TheVariants as units
use Rattle.bean_postings.specs.declared.price.Price as prices
use Rattle.bean_postings.specs.declared.price.Price.TheVariants.{PerUnit, Total}
use Rattle.limits.specs.declared.counts.TheConstants.{LARGEST_TEXT}

-- the most bytes of a text of a ledger, and so the most of whatever is counted of it
abbrev pub most : ℕ
most = LARGEST_TEXT

abbrev pub IsShort : List ℕ → Type 0
IsShort bytes = length bytes ≤ most

-- a currency has at most 24 bytes
abbrev pub IsShortCurrency : List ℕ → Type 0
IsShortCurrency bytes = length bytes ≤ 24

abbrev pub IsShortMark : marks.Mark → Type 0
IsShortMark (mark.Tag name) = IsShort name
IsShortMark (mark.Link name) = IsShort name

-- the texts of a value
abbrev pub IsShortValue : values.Value → Type 0
IsShortValue (value.Text text) = IsShort text
IsShortValue (value.Account account) = IsShort account
IsShortValue (value.Currency currency) = IsShortCurrency currency
IsShortValue (value.Tag name) = IsShort name
IsShortValue (value.Amount amount) = IsShortCurrency amount.currency
IsShortValue v = Unit {0}

abbrev pub IsShortEntry : MetaEntry → Type 0
IsShortEntry e = IsShort e.key × IsShortValue e.value

abbrev pub AreShortUnits : units_declared.Units → Type 0
AreShortUnits (units.Currency currency) = IsShortCurrency currency
AreShortUnits (units.Amount amount) = IsShortCurrency amount.currency
AreShortUnits u = Unit {0}

-- the currency and the label of a lot
abbrev pub IsShortLot : LotParts → Type 0
IsShortLot lot = IfSome lot.amount (λ a. IsShortCurrency a.currency) × IfSome lot.label IsShort

abbrev pub IsShortCost : costs.Cost → Type 0
IsShortCost (Lot lot) = IsShortLot lot
IsShortCost c = Unit {0}

abbrev pub IsShortPrice : prices.Price → Type 0
IsShortPrice (PerUnit amount) = IsShortCurrency amount.currency
IsShortPrice (Total amount) = IsShortCurrency amount.currency
IsShortPrice p = Unit {0}

-- a posting's texts, its line, and the texts of its entries
pub record IsSmallPosting (p : Posting) : Type 0 where
  pub line : p.details.line ≤ most
  pub account : IsShort p.account
  pub units : AreShortUnits p.units
  pub cost : IsShortCost p.details.cost
  pub price : IsShortPrice p.details.price
  pub metadata : AllByRecursion IsShortEntry p.details.metadata
