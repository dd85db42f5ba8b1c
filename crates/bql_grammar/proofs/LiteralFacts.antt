-- Literals that are days.
use Rattle.std.proofs.Common.{◌≡◌, Bool, true, false, IsTrue, ℕ, List, Some, None}
use Rattle.std.proofs.Common.{Ok, Err, refl, ap}
use Rattle.bean_base.specs.Day.{is_day_form, year_of, month_of, day_of, ParsesDay}
use Rattle.bean_base.specs.declared.days.Day.{Day}
use Rattle.bean_base.specs.declared.days.NotADay.{NotADay}
use Rattle.bean_base.proofs.DayFacts.{is_day_of}
use Rattle.bql_grammar.specs.Front.{day_leaf, day_by}

is_true : (t : Bool) → t ≡ true → IsTrue t
is_true t e = e

not_true : (t : Bool) → t ≡ false → IsTrue t → ⊥
not_true t e h = cc (e, h)

is_by : (bs : List ℕ) (d : Day) (t : Bool) → is_day_form bs ≡ t → ParsesDay (Ok d) bs
    → day_leaf (Some d) ≡ day_by t bs
is_by bs d true e has = ap day_leaf (is_day_of (Ok d) (year_of bs) (month_of bs) (day_of bs) has.1)
is_by bs d false e has = absurd (not_true (is_day_form bs) e has.0)

none_by : (bs : List ℕ) (n : NotADay) (t : Bool) → is_day_form bs ≡ t → ParsesDay (Err n) bs
    → day_leaf None ≡ day_by t bs
none_by bs n true e none = ap day_leaf (is_day_of (Err n) (year_of bs) (month_of bs) (day_of bs)
    (λ is. none (is_true (is_day_form bs) e, is)))
none_by bs n false e none = refl

pub day_literal : (bs : List ℕ) (d : Day) → ParsesDay (Ok d) bs
    → day_leaf (Some d) ≡ day_by (is_day_form bs) bs
day_literal bs d has = is_by bs d (is_day_form bs) refl has

pub no_day_literal : (bs : List ℕ) (n : NotADay) → ParsesDay (Err n) bs
    → day_leaf None ≡ day_by (is_day_form bs) bs
no_day_literal bs n none = none_by bs n (is_day_form bs) refl none
