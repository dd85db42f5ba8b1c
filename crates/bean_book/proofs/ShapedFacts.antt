-- Rows of small ledgers lie in the shapes of their columns.
use Rattle.std.proofs.Common.{◌≡◌, ℕ, ℤ, pos, ◌^◌, ◌<◌, ◌≤◌, ◌++◌, List, [], ◌∷◌}
use Rattle.std.proofs.Common.{codes, ◌+◌, length, length-append, map, Option, Some, None, true}
use Rattle.std.proofs.Common.{false}
use Rattle.std.proofs.Common.{ap, ◌∙◌, arith, slice_get, IfSome}
use Rattle.std.specs.Int.RustNames.{unsigned_abs}
use Rattle.std.specs.List.{AllByRecursion, flat_map}
use Rattle.std.specs.Cmp.Lexicographic.{slice_cmp}
use Rattle.std.specs.Ordering.{nat_cmp}
use Rattle.std.proofs.lemmas.Int.{unsigned_abs-mul}
use Rattle.std.proofs.lemmas.List.{length-map}
use Rattle.bean_base.proofs.PowerFacts.{scaled_lt}
use Rattle.bean_base.specs.declared.amounts.Amount.{Amount}
use Rattle.bean_base.specs.declared.num.Num.{Num}
use Rattle.bean_grammar.specs.declared.mark.Mark.{Mark}
use Rattle.bean_grammar.specs.declared.mark.Mark.TheVariants.{Tag, Link}
use Rattle.bean_grammar.specs.declared.metadata.MetaEntry as grammar
use Rattle.bean_grammar.specs.declared.metadata.Value.{Value}
use Rattle.bean_grammar.specs.declared.metadata.Value.TheVariants as value
use Rattle.bean_postings.specs.declared.posting.Posting.{Posting}
use Rattle.bean_postings.specs.declared.price.Price as prices
use Rattle.bean_postings.specs.declared.price.Price.TheVariants as price
use Rattle.bean_directives.specs.declared.transaction.Transaction.{Transaction}
use Rattle.bean_interp.specs.Residual.{IsLight}
use Rattle.bean_base.specs.Counts.{at_8}
use Rattle.bean_interp.specs.Weight.{count_of, currency_of}
use Rattle.bean_interp.specs.declared.leg.Leg.TheVariants as leg
use Rattle.bean_lots.specs.declared.lot.Lot.{Lot}
use Rattle.bean_pad.specs.declared.note.NotedPad.{NotedPad}
use Rattle.bean_replay.proofs.SmallListFacts.{all_at, all_flat, all_mapped}
use Rattle.bean_replay.specs.Small.{IsSmallLot, IsSmallNoted, IsSmallPad, IsSmallPosted}
use Rattle.bean_replay.specs.declared.booking.Kept.{Kept}
use Rattle.bean_directives.specs.SmallPart.{IsShort, IsShortCurrency, IsShortEntry, IsShortMark}
use Rattle.bean_directives.specs.SmallPart.{IsShortPrice, IsShortValue, IsSmallPosting, most}
use Rattle.bean_transactions.specs.Tried.{booked_leg, whole_at, worth_of}
use Rattle.bean_holdings.specs.declared.posted.Posted.{Posted}
use Rattle.number_texts.proofs.LengthFacts.{length-day, short_number}
use Rattle.posting_table.specs.Parts as parts
use Rattle.posting_table.specs.Parts.{HasShortTexts, HasSmallParts, IsShortLot, IsShortSet}
use Rattle.posting_table.specs.Shaped.{AreShort}
use Rattle.query_rows.specs.Shaped.{IsShortIfThere}
use Rattle.posting_entries.specs.declared.entry.EntryParts.{EntryParts}
use Rattle.posting_entries.specs.declared.metadata.MetaItem.{MetaItem}
use Rattle.query_rows.specs.Mass.{value_of}
use Rattle.query_values.specs.TextSet.{set_of}
use Rattle.theory.proofs.OnceFacts.{all_once, few_once}
use Rattle.bean_book.specs.Details.{accounts_told, told}
use Rattle.bean_book.specs.Metadata.{amount_text, item_of, items_of, num_text, text_of}
use Rattle.bean_book.specs.Rows.{entry_of, items_in, link_in, padding_entry, padding_row, row_by}
use Rattle.bean_book.specs.Rows.{row_of, tag_in, unit_price}
use Rattle.bean_book.specs.Tame.{IsTameKept}
use Rattle.bean_book.specs.declared.details.Details.{Details}
use Rattle.bean_book.specs.declared.details.Details.TheVariants.{All, ButAccounts, Few}

-- ---- texts

short_currency : (c : List ℕ) → IsShortCurrency c → IsShort c
short_currency c h = omega (arith, h)

if_there : (o : Option (List ℕ)) → IfSome o IsShort → IsShortIfThere o
if_there None h = tt
if_there (Some text) h = h

short_num : (n : Num) → length (num_text n) ≤ 38
short_num n =
    let few = n.in_range.0 in
    let h = short_number n.count n.places n.places n.small in omega (arith, few, h)

short_value : (v : Value) → IsShortValue v → IsShortIfThere (text_of v)
short_value value.Nothing h = tt
short_value (value.Text text) h = h
short_value (value.Account account) h = h
short_value (value.Day day) h = let e = length-day day in omega (arith, e)
short_value (value.Currency currency) h = short_currency currency h
short_value (value.Tag name) h = h
short_value (value.Truth true) h = omega arith
short_value (value.Truth false) h = omega arith
short_value (value.Number n) h = let e = short_num n in omega (arith, e)
short_value (value.Amount a) h =
    let number = short_num a.number in
    let e : length (amount_text a) ≡ length (num_text a.number) + (1 + length a.currency) =
    length-append (num_text a.number ++ codes " ") a.currency
    ∙ ap (λ n. n + length a.currency) (length-append (num_text a.number) (codes " "))
    ∙ (let e : length (num_text a.number) + 1 + length a.currency
    ≡ length (num_text a.number) + (1 + length a.currency) = omega arith in e) in
    omega (arith, number, e, h)

short_items : (es : List grammar.MetaEntry) → AllByRecursion IsShortEntry es → AreShort (items_of es)
short_items es h =
    all_mapped IsShortEntry (λ item. IsShortIfThere item.text) item_of
    (λ e k. short_value e.value k.1) es h

-- ---- what is told of lists

-- no more than all of it
few_told : {X : Type 0} (details : Details) (xs : List X) → length (told details xs) ≤ length xs
few_told All xs = omega arith
few_told ButAccounts xs = omega arith
few_told Few xs = omega arith

-- what holds of all of it
all_told : {X : Type 0} (P : X → Type 0) (details : Details) (xs : List X) → AllByRecursion P xs
    → AllByRecursion P (told details xs)
all_told P All xs h = h
all_told P ButAccounts xs h = h
all_told P Few xs h = tt

-- ---- what a transaction's rows have in common

short_set : (ts : List (List ℕ)) → length ts ≤ most → AllByRecursion IsShort ts
    → IsShortSet (set_of ts)
short_set ts few all =
    let fewer = few_once (slice_cmp nat_cmp) ts in
    (omega (arith, few, fewer), all_once (slice_cmp nat_cmp) IsShort ts all)

few_tags : (ms : List Mark) → length (flat_map tag_in ms) ≤ length ms
few_tags [] = omega arith
few_tags (Tag name ∷ ms) = let h = few_tags ms in omega (arith, h)
few_tags (Link name ∷ ms) = let h = few_tags ms in omega (arith, h)

few_links : (ms : List Mark) → length (flat_map link_in ms) ≤ length ms
few_links [] = omega arith
few_links (Tag name ∷ ms) = let h = few_links ms in omega (arith, h)
few_links (Link name ∷ ms) = let h = few_links ms in omega (arith, h)

short_tag : (m : Mark) → IsShortMark m → AllByRecursion IsShort (tag_in m)
short_tag (Tag name) h = (h, tt)
short_tag (Link name) h = tt

short_link : (m : Mark) → IsShortMark m → AllByRecursion IsShort (link_in m)
short_link (Tag name) h = tt
short_link (Link name) h = (h, tt)

-- the set of accounts is as short as they are, told or not
short_accounts : (details : Details) (ts : List (List ℕ)) → length ts ≤ most
    → AllByRecursion IsShort ts → IsShortSet (set_of (accounts_told details ts))
short_accounts All ts few all = short_set ts few all
short_accounts ButAccounts ts few all = (omega arith, tt)
short_accounts Few ts few all = (omega arith, tt)

pub entry_short : (details : Details) (k : Kept) → IsTameKept k
    → HasShortTexts (entry_of details k)
entry_short details k h =
    let t : Transaction = k.written.transaction in
    let small = h.small in
    let marks = told details t.marks in
    let short = all_told IsShortMark details t.marks small.transaction.marks in
    let as_few = few_told details t.marks in
    let tags = few_tags marks in
    let links = few_links marks in
    let accounts = length-map k.postings (λ (p : Posted). p.account) in
    let few = h.few in
    let few_marks = small.few_marks in record {
      payee = if_there t.payee small.transaction.payee;
      narration = small.transaction.narration;
      tags = short_set (flat_map tag_in marks) (omega (arith, tags, as_few, few_marks))
          (all_flat IsShortMark IsShort tag_in short_tag marks short);
      links = short_set (flat_map link_in marks) (omega (arith, links, as_few, few_marks))
          (all_flat IsShortMark IsShort link_in short_link marks short);
      accounts = short_accounts details (map (λ p. p.account) k.postings)
          (omega (arith, accounts, few))
          (all_mapped IsSmallPosted IsShort (λ p. p.account) (λ p k. k.account) k.postings
          small.postings);
      texts = short_items (told details k.written.metadata)
          (all_told IsShortEntry details k.written.metadata small.metadata);
    }

-- ---- rows of transactions

units_small : (n : Num) → unsigned_abs (at_8 n) < 10 ^ 20
units_small n = scaled_lt n.count n.places 8 n.in_range.1 n.in_range.0 (omega arith)

lot_short : (l : Option Lot) → IfSome l IsSmallLot → IsShortLot l
lot_short None h = tt
lot_short (Some l) h = (short_currency l.cost.currency h.0, if_there l.label h.1)

value_small : (units : Amount) (o : Option Lot) (w : prices.Price)
    → unsigned_abs (count_of units (worth_of o w)) < 10 ^ 28
    → value_of o (at_8 units.number) < 10 ^ 28
value_small units None w h = omega arith
value_small units (Some l) w h =
    let e = unsigned_abs-mul (at_8 units.number) l.cost.count in omega (arith, e, h)

worth_short : (units : Amount) (o : Option Lot) (w : prices.Price)
    → IsShortCurrency units.currency → IfSome o IsSmallLot → IsShortPrice w
    → IsShort (currency_of units (worth_of o w))
worth_short units (Some l) w u h k = short_currency l.cost.currency h.0
worth_short units None price.Absent u h k = short_currency units.currency u
worth_short units None (price.PerUnit a) u h k = short_currency a.currency k
worth_short units None (price.Total a) u h k = short_currency a.currency k
worth_short units None price.OutsideProfile u h k = short_currency units.currency u

-- the currency of a price
price_short : (p : prices.Price) → IsShortPrice p → parts.IsShortPrice (unit_price p)
price_short price.Absent h = tt
price_short (price.PerUnit amount) h = short_currency amount.currency h
price_short (price.Total amount) h = tt
price_short price.OutsideProfile h = tt

items_short : (details : Details) (w : Option Posting) → IfSome w IsSmallPosting
    → AreShort (items_in details w)
items_short details None small = tt
items_short details (Some w) small =
    short_items (told details w.details.metadata)
    (all_told IsShortEntry details w.details.metadata small.metadata)

row_by_small : (e : EntryParts) (line : ℕ) (items : List MetaItem) (w : Option Posting)
    (p : Posted) → HasShortTexts e → AreShort items → IsSmallPosted p
    → IsLight (leg.Whole (whole_at w p)) → IfSome w IsSmallPosting → line ≤ most
    → HasSmallParts (row_by e line items w p)
row_by_small e line items None p texts short small light written at = record {
  entry = texts;
  account = small.account;
  currency = short_currency p.units.currency small.currency;
  lot = lot_short p.lot small.lot;
  units = units_small p.units.number;
  value = value_small p.units p.lot price.Absent light;
  weight = light;
  weight_currency = worth_short p.units p.lot price.Absent small.currency small.lot tt;
  price = tt;
  line = at;
  texts = short;
}
row_by_small e line items (Some w) p texts short small light written at = record {
  entry = texts;
  account = small.account;
  currency = short_currency p.units.currency small.currency;
  lot = lot_short p.lot small.lot;
  units = units_small p.units.number;
  value = value_small p.units p.lot w.details.price light;
  weight = light;
  weight_currency =
      worth_short p.units p.lot w.details.price small.currency small.lot written.price;
  price = price_short w.details.price written.price;
  line = written.line;
  texts = short;
}

pub row_small : (details : Details) (e : EntryParts) (line : ℕ) (ps : List Posting) (p : Posted)
    → HasShortTexts e → IsSmallPosted p → IsLight (booked_leg ps p)
    → AllByRecursion IsSmallPosting ps → line ≤ most → HasSmallParts (row_of details e line ps p)
row_small details e line ps p texts small light written at =
    let w = slice_get ps p.written in
    let own = all_at IsSmallPosting ps p.written written in
    row_by_small e line (items_in details w) w p texts (items_short details w own) small light own at

-- ---- rows of pads

pub padding_short : (details : Details) (n : NotedPad) → IsSmallPad n.pad
    → HasShortTexts (padding_entry details n)
padding_short details n h = record {
  payee = tt;
  narration = omega arith;
  tags = (omega arith, tt);
  links = (omega arith, tt);
  accounts = short_accounts details (n.pad.account ∷ n.pad.source ∷ []) (omega arith)
      (h.account, (h.source, tt));
  texts = tt;
}

pub padding_small : (e : EntryParts) (n : NotedPad) (account currency : List ℕ) (count : ℤ)
    → HasShortTexts e → IsSmallNoted n → IsShort account → IsShortCurrency currency
    → unsigned_abs count < 10 ^ 20 → HasSmallParts (padding_row e n account currency count)
padding_small e n account currency count texts h a c few =
    let wide = unsigned_abs-mul count (pos (10 ^ 8)) in record {
      entry = texts;
      account = a;
      currency = short_currency currency c;
      lot = tt;
      units = few;
      value = omega arith;
      weight = omega (arith, wide, few);
      weight_currency = short_currency currency c;
      price = tt;
      line = h.line;
      texts = tt;
    }
