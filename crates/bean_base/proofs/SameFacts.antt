-- Days and numbers with the same parts are the same.
use Rattle.std.proofs.Common.{◌≡◌, ◌<◌, ◌^◌, ℕ, ℤ, pos, sym, ◌∙◌}
use Rattle.std.proofs.Props.{props}
use mathlib.Core.HLevel.{is_prop→PathP}
use Rattle.std.specs.Prelude.{◌≤ℤ◌}
use Rattle.std.specs.Int.{IsInRange}
use Rattle.std.specs.Int.RustNames.{unsigned_abs}
use Rattle.jiff.specs.Words.{IsYmd}
use Rattle.jiff_core.specs.Calendar.{IsYear, days_in_month}
use Rattle.jiff_core.specs.declared.civil.date.Date.{Date}
use Rattle.bean_base.specs.Decimal.{IsLedger}
use Rattle.bean_base.specs.declared.days.Day.{Day}
use Rattle.bean_base.specs.declared.num.Num.{Num}

same_date : (a b : Date) → a.year ≡ b.year → a.month ≡ b.month → a.day ≡ b.day → a ≡ b
same_date a b year month day = λ i. record {
  year = year i;
  month = month i;
  day = day i;
  year_in = is_prop→PathP (λ j. IsYear (year j)) (λ j. hlevel props) a.year_in b.year_in i;
  month_in =
      is_prop→PathP (λ j. IsInRange 1 12 (month j)) (λ j. hlevel props) a.month_in b.month_in i;
  day_in = is_prop→PathP (λ j. IsInRange 1 (days_in_month (year j) (month j)) (day j))
      (λ j. hlevel props) a.day_in b.day_in i;
}

pos_is : (a b : ℕ) → pos a ≡ pos b → a ≡ b
pos_is a b e = cc

pub same_day : (year month day : ℤ) (a b : Day) → IsYmd year month day a.date
    → IsYmd year month day b.date → a ≡ b
same_day year month day a b p q =
    let date : a.date ≡ b.date =
    same_date a.date b.date (p.0 ∙ sym q.0) (pos_is _ _ (p.1 ∙ sym q.1))
    (pos_is _ _ (p.2 ∙ sym q.2)) in
    λ i. record {
      date = date i;
      after_christ =
          is_prop→PathP (λ j. pos 1 ≤ℤ (date j).year) (λ j. hlevel props) a.after_christ
          b.after_christ i;
    }

pub same_num : (a b : Num) → a.count ≡ b.count → a.places ≡ b.places → a ≡ b
same_num a b count places = λ i. record {
  count = count i;
  places = places i;
  in_range =
      is_prop→PathP (λ j. IsLedger (count j) (places j)) (λ j. hlevel props) a.in_range b.in_range
      i;
  small = is_prop→PathP (λ j. unsigned_abs (count j)
      < 10 ^ 20) (λ j. hlevel props) a.small b.small i;
}
