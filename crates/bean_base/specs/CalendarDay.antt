-- The days that the calendar has, as their years, months and days.
use Rattle.std.specs.Prelude.{◌≡◌, ◌≤ℤ◌, ℕ, ◌&&◌, Bool, true, false, pos, nat_le, Option, Some}
use Rattle.std.specs.Prelude.{None, refl}
use Rattle.std.specs.Int.{IsInRange}
use Rattle.std.specs.Int.RustNames.{unsigned_abs}
use Rattle.std.proofs.Common.{arith}
use Rattle.std.proofs.lemmas.Grind.{common_steps}
use Rattle.std.proofs.lemmas.Int.{ints}
use Rattle.jiff_core.specs.Calendar.{IsYear, days_in_month}
use Rattle.bean_base.specs.declared.days.Day.{Day}

-- from the year 1 to 9999, and as many days in a month as the calendar has
abbrev pub is_day : ℕ → ℕ → ℕ → Bool
is_day y m d =
    nat_le 1 y && nat_le y 9999 && nat_le 1 m && nat_le m 12 && nat_le 1 d
    && nat_le d (days_in_month (pos y) m)

pub has_year : (y m d : ℕ) → is_day y m d ≡ true → IsYear (pos y)
has_year y m d is = grind (arith, common_steps, ints)

pub is_after_christ : (y m d : ℕ) → is_day y m d ≡ true → pos 1 ≤ℤ pos y
is_after_christ y m d is = grind (arith, common_steps, ints)

pub has_month : (y m d : ℕ) → is_day y m d ≡ true → IsInRange 1 12 m
has_month y m d is = grind (arith, common_steps)

pub has_day : (y m d : ℕ) → is_day y m d ≡ true → IsInRange 1 (days_in_month (pos y) m) d
has_day y m d is = grind (arith, common_steps)

abbrev pub day_at : (y m d : ℕ) → is_day y m d ≡ true → Day
day_at y m d is = record {
  date = record {
    year = pos y;
    month = m;
    day = d;
    year_in = has_year y m d is;
    month_in =
        has_month y m d is;
    day_in = has_day y m d is;
  };
  after_christ = is_after_christ y m d is;
}

abbrev pub day_where : (y m d : ℕ) (b : Bool) → is_day y m d ≡ b → Option Day
day_where y m d true is = Some (day_at y m d is)
day_where y m d false is = None

-- the day of a year, a month and a day, where there is one
abbrev pub day_of : ℕ → ℕ → ℕ → Option Day
day_of y m d = day_where y m d (is_day y m d) refl

-- the year, the month and the day of a day
abbrev pub parts_of : Day → ℕ × (ℕ × ℕ)
parts_of d = (unsigned_abs d.date.year, (d.date.month, d.date.day))

-- the first day of the calendar
abbrev pub first_day : Day
first_day = day_at 1 1 1 refl
