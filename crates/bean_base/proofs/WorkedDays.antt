-- Days for worked values, here and in the crates above, with their numbers.
use Rattle.std.proofs.Common.{◌≡◌, ◌≤ℤ◌, pos, refl, rules}
use Rattle.std.specs.Int.{IsInRange}
use Rattle.jiff_core.specs.Calendar.{IsYear, days_in_month, days_from_civil, day_count}
use Rattle.jiff_core.specs.Calendar.{days_of_years, days_of_months}
use Rattle.bean_base.specs.declared.days.Day.{Day}
use Rattle.bean_base.specs.Day.{number}

pub a_year : IsYear (pos 2014)
a_year = search rules

pub after : pos 1 ≤ℤ pos 2014
after = search rules

pub a_month : IsInRange 1 12 1
a_month = search rules

pub second : IsInRange 1 (days_in_month (pos 2014) 1) 2
second = search rules

pub third : IsInRange 1 (days_in_month (pos 2014) 1) 3
third = search rules

abbrev pub january_2 : Day
january_2 = record {
  date = record {
    year = pos 2014;
    month = 1;
    day = 2;
    year_in = a_year;
    month_in =
        a_month;
    day_in = second;
  };
  after_christ = after;
}

abbrev pub january_3 : Day
january_3 = record {
  date = record {
    year = pos 2014;
    month = 1;
    day = 3;
    year_in = a_year;
    month_in =
        a_month;
    day_in = third;
  };
  after_christ = after;
}

pub january_2_number : number january_2 ≡ pos 16072
unfolding days_from_civil day_count days_of_years days_of_months
january_2_number = refl

pub january_3_number : number january_3 ≡ pos 16073
unfolding days_from_civil day_count days_of_years days_of_months
january_3_number = refl
