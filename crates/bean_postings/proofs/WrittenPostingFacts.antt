-- What is kept of a posting is the posting.
use Rattle.std.proofs.Common.{◌≡◌, ◌<◌, ◌^◌, ◌∙◌, ℕ, ℤ, List, ap, sym, subst}
use Rattle.std.proofs.Math.Dec.{T_prop}
use Rattle.std.specs.Coded.{le_prop}
use Rattle.std.specs.Int.RustNames.{unsigned_abs}
use mathlib.Core.HLevel.{is_prop→PathP}
use Rattle.bean_base.proofs.NumFacts.{one_num}
use Rattle.bean_base.specs.Decimal.{IsLedger}
use Rattle.bean_base.specs.declared.num.Num.{Num}
use Rattle.bean_grammar.specs.declared.metadata.MetaEntry.{MetaEntry}
use Rattle.bean_postings.specs.Details as details
use Rattle.bean_postings.specs.WrittenPosting.{IsInRange, IsSmall, count_in, places_in, units_in}
use Rattle.bean_postings.specs.WrittenPosting.{with_entry}
use Rattle.bean_postings.specs.declared.details.DetailParts.{DetailParts}
use Rattle.bean_postings.specs.Details.{alone}
use Rattle.bean_postings.specs.declared.posting.Posting.{Posting}
use Rattle.bean_postings.specs.declared.posting.Units.{Units}
use Rattle.bean_postings.specs.declared.posting.Units.TheVariants as units
use Rattle.bean_postings.specs.declared.written_posting.Kept.{Kept}
use Rattle.bean_postings.specs.declared.written_posting.Kept.TheVariants as kept

abbrev pub Equal : Posting → Posting → Type 0
Equal p q = p ≡ q

-- the same is kept, and so the units are the same
pub units_alike : (k l : Kept) → k ≡ l → (r : IsInRange k) (s : IsSmall k) (t : IsInRange l)
    (u : IsSmall l) → units_in k r s ≡ units_in l t u
units_alike k l e r s t u = λ i.
    units_in (e i)
    (is_prop→PathP (λ j. IsLedger (count_in (e j)) (places_in (e j)))
    (λ j. hlevel (le_prop, T_prop)) r t i)
    (is_prop→PathP (λ j. unsigned_abs (count_in (e j)) < 10 ^ 20)
    (λ j. hlevel (le_prop, T_prop)) s u i)

-- the number of a count is the one that is kept
pub amount_of : (places line : ℕ) (count : ℤ) (currency : List ℕ)
    (r : IsInRange (kept.Amount places line count currency))
    (s : IsSmall (kept.Amount places line count currency)) (n : Num) → n.count ≡ count
    → n.places ≡ places
    → units.Amount (record { number = n; currency = currency })
    ≡ units_in (kept.Amount places line count currency) r s
amount_of places line count currency r s n is_count is_places =
    ap (λ m. units.Amount (record { number = m; currency = currency }))
    (one_num n (record { count = count; places = places; in_range = r; small = s }) is_count
    is_places)

-- the amount that is kept is the units
pub kept_amount : (k : Kept) (r : IsInRange k) (s : IsSmall k) (places line : ℕ) (count : ℤ)
    (currency : List ℕ) (n : Num) → k ≡ kept.Amount places line count currency → n.count ≡ count
    → n.places ≡ places
    → units.Amount (record { number = n; currency = currency }) ≡ units_in k r s
kept_amount k r s places line count currency n is is_count is_places =
    let t = subst IsInRange is r in
    let u = subst IsSmall is s in
    amount_of places line count currency t u n is_count is_places
    ∙ sym (units_alike k _ is r s t u)

-- a line with nothing else beside its units
pub on_line_alike : (u v : Units) (account : List ℕ) (a b : ℕ) → u ≡ v → a ≡ b
    → Equal
    (record { units = u; account = account; details = alone a })
    (record { units = v; account = account; details = alone b })
on_line_alike u v account a b units lines = λ i. record {
  units = units i;
  account = account;
  details = alone (lines i);
}

-- one more entry under a posting
pub entry_added : (p : Posting) (e : MetaEntry) (u : Units) (a : List ℕ) (d : DetailParts)
    → u ≡ p.units → a ≡ p.account → d ≡ details.with_entry p.details e
    → Equal (record { units = u; account = a; details = d }) (with_entry p e)
entry_added p e u a d is_units is_account is_details = λ i. record {
  units = is_units i;
  account = is_account i;
  details = is_details i;
}
