-- Operations on one value keep shapes.
use Rattle.std.proofs.Common.{◌≡◌, ℕ, ◌-◌, ◌*◌, ◌^◌, ◌≤◌, ℤ, pos, neg_ℤ, Bool, true}
use Rattle.std.proofs.Common.{false}
use Rattle.std.proofs.Common.{cond, ◌&&◌, List, [], ◌∷◌, length, max, Ok, Err, refl, sym, ap}
use Rattle.std.proofs.Common.{subst, arith, not, zero, suc, ◌+◌, ◌||◌, map, Option, Some, None}
use Rattle.std.specs.Prelude.{nat_le}
use Rattle.std.specs.Str.{chars, chars_after, continuation_len, lead_bits}
use Rattle.std.specs.List.{before_first, count_by}
use Rattle.std.proofs.lemmas.List.{length-take, length-drop}
use Rattle.jiff_core.proofs.CalendarLemmas.{days_in_month_bounds}
use Rattle.bean_base.specs.Name.{is_colon}
use Rattle.bean_base.specs.Root.{root_of}
use Rattle.bean_base.specs.declared.days.Day as day
use Rattle.bean_base.specs.declared.roots.Root.{Root}
use Rattle.bean_base.specs.declared.roots.Root.TheVariants.{Assets, Liabilities, Equity, Income}
use Rattle.bean_base.specs.declared.roots.Root.TheVariants.{Expenses}
use Rattle.query_values.proofs.ComponentFacts.{leaf_at, parent_at, root_at, whole_leaf}
use Rattle.std.specs.Int.RustNames.{unsigned_abs}
use Rattle.std.specs.List.{list_all}
use Rattle.std.proofs.Math.Nat.{mul-le-mul_right}
use Rattle.std.proofs.lemmas.Int.{ints, unsigned_abs-mul}
use Rattle.std.proofs.lemmas.Bool.{and_parts, and_from}
use Rattle.bean_base.specs.Decimal.{scaled}
use Rattle.query_values.specs.Arithmetic.{aligned, negative_of, magnitude_of}
use Rattle.query_values.specs.Held.{checked}
use Rattle.query_values.specs.Component.{end_after, leaf_part, parent_part, rank_of, root_part}
use Rattle.query_values.specs.Component.{root_rank}
use Rattle.query_values.specs.Operand.{are_alike, has_at_most, has_cost, has_units, is_day}
use Rattle.query_values.specs.Operand.{is_number, is_ordered, is_priced, is_set, is_signed, is_text}
use Rattle.query_values.specs.Operand.{is_truth, may_unary}
use Rattle.query_values.specs.Operation.{cost_of, currency_of, is_among, length_of, number_of}
use Rattle.query_values.specs.Operation.{has_match, has_member, is_true, of_day, of_text}
use Rattle.query_values.specs.Operation.{unary_value, units_of, whole}
use Rattle.query_values.specs.Order.{is_null}
use Rattle.query_values.specs.Pattern.{is_found}
use Rattle.query_holdings.specs.Total.{at_cost, without_lot}
use Rattle.query_values.specs.Unary as unary
use Rattle.query_values.specs.declared.value.Value.{Value}
use Rattle.query_values.specs.declared.value.Value.TheVariants as value
use Rattle.query_rows.specs.Keeping.{Has}
use Rattle.query_rows.specs.Rules as rule
use Rattle.query_rows.specs.Rules.{Ruled, unary_shape}
use Rattle.query_rows.specs.Shape.{IsShort, LiesIn, fitting}
use Rattle.query_rows.specs.declared.shape.Misfit.TheVariants.{Kind}
use Rattle.query_rows.specs.declared.shape.Shape.{Shape}
use Rattle.query_rows.specs.declared.shape.Shape.TheVariants as shape
use Rattle.limits.specs.declared.counts.TheConstants.{LARGEST_TEXT}
use Rattle.query_rows.proofs.FittingFacts.{fits, fits_then, most_of_units}
use Rattle.query_rows.proofs.MassFacts.{bare_units, cost_units, cost_within, costs_low}
use Rattle.query_rows.proofs.MassFacts.{negative_units, negative_value, negative_values}
use Rattle.query_rows.proofs.MassFacts.{sums_are_held, units_low}
use Rattle.query_rows.proofs.ShapeCases.{truth_cases, text_cases, day_cases, set_cases}
use Rattle.query_rows.proofs.ShapeCases.{number_cases, amount_cases, position_cases}
use Rattle.query_rows.proofs.ShapeCases.{inventory_cases}

-- ---- what may be applied

pub truth_is : (x : Value) → LiesIn x shape.Truth → is_truth x ≡ true
truth_is = truth_cases (λ y. is_truth y ≡ true) refl (λ b. refl)

pub text_is : (x : Value) → LiesIn x shape.Text → is_text x ≡ true
text_is = text_cases (λ y. is_text y ≡ true) refl (λ t s. refl)

pub day_is : (x : Value) → LiesIn x shape.Day → is_day x ≡ true
day_is = day_cases (λ y. is_day y ≡ true) refl (λ d. refl)

pub set_is : (x : Value) → LiesIn x shape.Set → is_set x ≡ true
set_is = set_cases (λ y. is_set y ≡ true) refl (λ ts n s. refl)

pub number_is : (q m : ℕ) (x : Value) → LiesIn x (shape.Number q m) → is_number x ≡ true
number_is q m = number_cases (λ y. is_number y ≡ true) q m refl (λ n low. refl)

-- ---- truth values

-- a truth value that may be had
pub gives_truth : (may b : Bool) → may ≡ true → Has (checked may (value.Truth b)) (Ok shape.Truth)
gives_truth may b may_be = fits may (value.Truth b) shape.Truth may_be tt

of_truth : (f : Value → Bool) (x : Value) (s : Shape) → LiesIn x s
    → Has (checked (is_truth x) (value.Truth (f x))) (rule.of_truth shape.Truth s)
of_truth f x shape.Truth h = gives_truth (is_truth x) (f x) (truth_is x h)
of_truth f x shape.Text h = tt
of_truth f x shape.Day h = tt
of_truth f x shape.Set h = tt
of_truth f x (shape.Number q m) h = tt
of_truth f x (shape.Amount q m) h = tt
of_truth f x (shape.Position u v) h = tt
of_truth f x (shape.Inventory q u v) h = tt

truth_of_text : (f : Value → Bool) (x : Value) (s : Shape) → LiesIn x s
    → Has (checked (is_text x) (value.Truth (f x))) (rule.of_text shape.Truth s)
truth_of_text f x shape.Text h = gives_truth (is_text x) (f x) (text_is x h)
truth_of_text f x shape.Truth h = tt
truth_of_text f x shape.Day h = tt
truth_of_text f x shape.Set h = tt
truth_of_text f x (shape.Number q m) h = tt
truth_of_text f x (shape.Amount q m) h = tt
truth_of_text f x (shape.Position u v) h = tt
truth_of_text f x (shape.Inventory q u v) h = tt

truth_of_set : (f : Value → Bool) (x : Value) (s : Shape) → LiesIn x s
    → Has (checked (is_set x) (value.Truth (f x))) (rule.of_set shape.Truth s)
truth_of_set f x shape.Set h = gives_truth (is_set x) (f x) (set_is x h)
truth_of_set f x shape.Truth h = tt
truth_of_set f x shape.Text h = tt
truth_of_set f x shape.Day h = tt
truth_of_set f x (shape.Number q m) h = tt
truth_of_set f x (shape.Amount q m) h = tt
truth_of_set f x (shape.Position u v) h = tt
truth_of_set f x (shape.Inventory q u v) h = tt

-- ---- texts and days

text_given : (f : List ℕ → Value) (given : Shape) → fitting given ≡ Ok given
    → ((t : List ℕ) → IsShort t → LiesIn (f t) given)
    → (x : Value) → LiesIn x shape.Text → Has (checked (is_text x) (of_text f x)) (Ok given)
text_given f given fit one x h =
    subst (λ (r : Ruled). Has (checked (is_text x) (of_text f x)) r) fit
    (fits (is_text x) (of_text f x) given (text_is x h)
    (text_cases (λ y. LiesIn (of_text f y) given) (null given) (λ t short. one t short) x h))
  where
    null : (s : Shape) → LiesIn value.Null s
    null s = tt

pub on_text : (f : List ℕ → Value) (given : Shape) → fitting given ≡ Ok given
    → ((t : List ℕ) → IsShort t → LiesIn (f t) given)
    → (x : Value) (s : Shape) → LiesIn x s
    → Has (checked (is_text x) (of_text f x)) (rule.of_text given s)
on_text f given fit one x shape.Text h = text_given f given fit one x h
on_text f given fit one x shape.Truth h = tt
on_text f given fit one x shape.Day h = tt
on_text f given fit one x shape.Set h = tt
on_text f given fit one x (shape.Number q m) h = tt
on_text f given fit one x (shape.Amount q m) h = tt
on_text f given fit one x (shape.Position u v) h = tt
on_text f given fit one x (shape.Inventory q u v) h = tt

pub on_day : (f : day.Day → Value) (given : Shape) → fitting given ≡ Ok given
    → ((d : day.Day) → LiesIn (f d) given) → (x : Value) (s : Shape) → LiesIn x s
    → Has (checked (is_day x) (of_day f x)) (rule.of_day given s)
on_day f given fit one x shape.Day h =
    subst (λ (r : Ruled). Has (checked (is_day x) (of_day f x)) r) fit
    (fits (is_day x) (of_day f x) given (day_is x h)
    (day_cases (λ y. LiesIn (of_day f y) given) tt one x h))
on_day f given fit one x shape.Truth h = tt
on_day f given fit one x shape.Text h = tt
on_day f given fit one x shape.Set h = tt
on_day f given fit one x (shape.Number q m) h = tt
on_day f given fit one x (shape.Amount q m) h = tt
on_day f given fit one x (shape.Position u v) h = tt
on_day f given fit one x (shape.Inventory q u v) h = tt

low_month : (d : day.Day) → d.date.month ≤ 12
low_month d = omega (arith, d.date.month_in.1)

low_year : (d : day.Day) → unsigned_abs d.date.year ≤ 9999
low_year d = omega (arith, ints, d.date.year_in.0, d.date.year_in.1)

low_day : (d : day.Day) → d.date.day ≤ 31
low_day d = let t = days_in_month_bounds d.date.year d.date.month in
    omega (arith, d.date.day_in.1, t.0)

-- ---- parts of accounts

short_front : (n : ℕ) (t : List ℕ) → IsShort t → IsShort (root_part n t)
short_front zero t short = omega arith
short_front (suc n) t short =
    subst (λ (u : List ℕ). IsShort u) (sym (root_at (suc n) t (omega arith)))
    (let l = length-take (end_after (suc n) t) t in omega (arith, l, short))

short_parent : (t : List ℕ) → IsShort t → IsShort (parent_part t)
short_parent t short =
    subst (λ (u : List ℕ). IsShort u) (sym (parent_at t))
    (short_front (count_by is_colon t) t short)

short_leaf : (t : List ℕ) → IsShort t → IsShort (leaf_part t)
short_leaf t short = by (count_by is_colon t) refl
  where
    by : (n : ℕ) → count_by is_colon t ≡ n → IsShort (leaf_part t)
    by zero e = subst (λ (u : List ℕ). IsShort u) (sym (whole_leaf t e)) short
    by (suc n) e =
        subst (λ (u : List ℕ). IsShort u) (sym (leaf_at t (suc n) e (omega arith)))
        (let l = length-drop (end_after (suc n) t + 1) t in omega (arith, l, short))

low_rank : (t : List ℕ) → root_rank t ≤ 5
low_rank t = by (root_of (before_first is_colon t))
  where
    by : (r : Option Root) → rank_of r ≤ 5
    by None = omega arith
    by (Some Assets) = omega arith
    by (Some Liabilities) = omega arith
    by (Some Equity) = omega arith
    by (Some Income) = omega arith
    by (Some Expenses) = omega arith

-- ---- lengths

few_after : (n c : ℕ) (bs : List ℕ) → length (chars_after n c bs) ≤ 1 + length bs
few_after zero c [] = omega arith
few_after zero c (b ∷ bs) =
    let t = few_after (continuation_len b) (lead_bits b) bs in omega (arith, t)
few_after (suc n) c [] = omega arith
few_after (suc n) c (b ∷ bs) = let t = few_after n (c * 64 + (b - 128)) bs in omega (arith, t)

-- a text has no more characters than bytes
few_chars : (bs : List ℕ) → length (chars bs) ≤ length bs
unfolding chars
few_chars [] = omega arith
few_chars (b ∷ bs) =
    let t = few_after (continuation_len b) (lead_bits b) bs in omega (arith, t)

on_length : (x : Value) (s : Shape) → LiesIn x s
    → Has (checked (is_text x || is_set x) (length_of x)) (rule.length_of s)
on_length x shape.Text h =
    fits (is_text x || is_set x) (length_of x) (rule.whole LARGEST_TEXT)
    (text_cases (λ y. (is_text y || is_set y) ≡ true) refl (λ t short. refl) x h)
    (text_cases (λ y. LiesIn (length_of y) (rule.whole LARGEST_TEXT)) tt
    (λ t short. (refl, (let c = few_chars t in omega (arith, c, short)))) x h)
on_length x shape.Set h =
    fits (is_text x || is_set x) (length_of x) (rule.whole LARGEST_TEXT)
    (set_cases (λ y. (is_text y || is_set y) ≡ true) refl (λ ts few short. refl) x h)
    (set_cases (λ y. LiesIn (length_of y) (rule.whole LARGEST_TEXT)) tt (λ ts few short. (refl, few)) x
    h)
on_length x shape.Truth h = tt
on_length x shape.Day h = tt
on_length x (shape.Number q m) h = tt
on_length x (shape.Amount q m) h = tt
on_length x (shape.Position u v) h = tt
on_length x (shape.Inventory q u v) h = tt

-- ---- numbers

low_scaled : (n : ℤ) (p q m : ℕ) → unsigned_abs n ≤ m
    → unsigned_abs (scaled n q p) ≤ m * 10 ^ (p - q)
low_scaled n p q m low =
    subst (λ (k : ℕ). k ≤ m * 10 ^ (p - q)) (sym (unsigned_abs-mul n (pos (10 ^ (p - q)))))
    (mul-le-mul_right (10 ^ (p - q)) low)

on_align : (p : ℕ) (x : Value) (s : Shape) → LiesIn x s
    → Has (checked (has_at_most p x) (aligned p x)) (rule.aligned p s)
on_align p x (shape.Number q m) h = by (nat_le q p) refl
  where
    by : (b : Bool) → nat_le q p ≡ b
        → Has (checked (has_at_most p x) (aligned p x))
        (cond b (fitting (shape.Number p (m * 10 ^ (p - q)))) (Err Kind))
    by false e = tt
    by true e =
        fits (has_at_most p x) (aligned p x) (shape.Number p (m * 10 ^ (p - q)))
        (number_cases (λ y. has_at_most p y ≡ true) q m refl (λ n low. e) x h)
        (number_cases (λ y. LiesIn (aligned p y) (shape.Number p (m * 10 ^ (p - q)))) q m tt
        (λ n low. (refl, low_scaled n p q m low)) x h)
on_align p x shape.Truth h = tt
on_align p x shape.Text h = tt
on_align p x shape.Day h = tt
on_align p x shape.Set h = tt
on_align p x (shape.Amount q m) h = tt
on_align p x (shape.Position u v) h = tt
on_align p x (shape.Inventory q u v) h = tt

low_negative : (n : ℤ) (m : ℕ) → unsigned_abs n ≤ m → unsigned_abs (neg_ℤ n) ≤ m
low_negative n m low = omega (arith, ints, low)

on_negative : (x : Value) (s : Shape) → LiesIn x s
    → Has (checked (is_signed x) (negative_of x)) (rule.negated s)
on_negative x (shape.Number q m) h =
    fits (is_signed x) (negative_of x) (shape.Number q m)
    (number_cases (λ y. is_signed y ≡ true) q m refl (λ n low. refl) x h)
    (number_cases (λ y. LiesIn (negative_of y) (shape.Number q m)) q m tt
    (λ n low. (refl, low_negative n m low)) x h)
on_negative x (shape.Amount q m) h =
    fits (is_signed x) (negative_of x) (shape.Amount q m)
    (amount_cases (λ y. is_signed y ≡ true) q m refl (λ n c low name. refl) x h)
    (amount_cases (λ y. LiesIn (negative_of y) (shape.Amount q m)) q m tt
    (λ n c low name. (refl, low_negative n m low, name)) x h)
on_negative x (shape.Position u v) h =
    fits (is_signed x) (negative_of x) (shape.Position u v)
    (position_cases (λ y. is_signed y ≡ true) u v refl (λ k n low cost name other. refl) x h)
    (position_cases (λ y. LiesIn (negative_of y) (shape.Position u v)) u v tt
    (λ k n low cost name other. (
      low_negative n u low,
      subst (λ (z : ℕ). z ≤ v) (sym (negative_value k.lot n)) cost,
      name,
      other,
    )) x h)
on_negative x (shape.Inventory q u v) h =
    fits (is_signed x) (negative_of x) (shape.Inventory q u v)
    (inventory_cases (λ y. is_signed y ≡ true) q u v refl (λ b places units cost. refl) x h)
    (inventory_cases (λ y. LiesIn (negative_of y) (shape.Inventory q u v)) q u v tt
    (λ b places units cost. (
      places,
      subst (λ (z : ℕ). z ≤ u) (sym (negative_units b.held)) units,
      subst (λ (z : ℕ). z ≤ v) (sym (negative_values b.held)) cost,
    )) x h)
on_negative x shape.Truth h = tt
on_negative x shape.Text h = tt
on_negative x shape.Day h = tt
on_negative x shape.Set h = tt

on_magnitude : (x : Value) (s : Shape) → LiesIn x s
    → Has (checked (is_number x) (magnitude_of x)) (rule.magnitude_of s)
on_magnitude x (shape.Number q m) h =
    fits (is_number x) (magnitude_of x) (shape.Number q m) (number_is q m x h)
    (number_cases (λ y. LiesIn (magnitude_of y) (shape.Number q m)) q m tt
    (λ n low. (refl, low)) x h)
on_magnitude x shape.Truth h = tt
on_magnitude x shape.Text h = tt
on_magnitude x shape.Day h = tt
on_magnitude x shape.Set h = tt
on_magnitude x (shape.Amount q m) h = tt
on_magnitude x (shape.Position u v) h = tt
on_magnitude x (shape.Inventory q u v) h = tt

-- ---- amounts, positions and inventories

on_number : (x : Value) (s : Shape) → LiesIn x s
    → Has (checked (is_priced x) (number_of x)) (rule.number_of s)
on_number x (shape.Amount q m) h =
    fits (is_priced x) (number_of x) (shape.Number q m)
    (amount_cases (λ y. is_priced y ≡ true) q m refl (λ n c low name. refl) x h)
    (amount_cases (λ y. LiesIn (number_of y) (shape.Number q m)) q m tt
    (λ n c low name. (refl, low)) x h)
on_number x (shape.Position u v) h =
    fits (is_priced x) (number_of x) (shape.Number 8 u)
    (position_cases (λ y. is_priced y ≡ true) u v refl (λ k n low cost name other. refl) x h)
    (position_cases (λ y. LiesIn (number_of y) (shape.Number 8 u)) u v tt
    (λ k n low cost name other. (refl, low)) x h)
on_number x shape.Truth h = tt
on_number x shape.Text h = tt
on_number x shape.Day h = tt
on_number x shape.Set h = tt
on_number x (shape.Number q m) h = tt
on_number x (shape.Inventory q u v) h = tt

on_currency : (x : Value) (s : Shape) → LiesIn x s
    → Has (checked (is_priced x) (currency_of x)) (rule.currency_of s)
on_currency x (shape.Amount q m) h =
    fits (is_priced x) (currency_of x) shape.Text
    (amount_cases (λ y. is_priced y ≡ true) q m refl (λ n c low name. refl) x h)
    (amount_cases (λ y. LiesIn (currency_of y) shape.Text) q m tt (λ n c low name. name) x h)
on_currency x (shape.Position u v) h =
    fits (is_priced x) (currency_of x) shape.Text
    (position_cases (λ y. is_priced y ≡ true) u v refl (λ k n low cost name other. refl) x h)
    (position_cases (λ y. LiesIn (currency_of y) shape.Text) u v tt
    (λ k n low cost name other. name) x h)
on_currency x shape.Truth h = tt
on_currency x shape.Text h = tt
on_currency x shape.Day h = tt
on_currency x shape.Set h = tt
on_currency x (shape.Number q m) h = tt
on_currency x (shape.Inventory q u v) h = tt

on_units : (x : Value) (s : Shape) → LiesIn x s
    → Has (checked (has_units x) (units_of x)) (rule.units_of s)
on_units x (shape.Position u v) h =
    fits (has_units x) (units_of x) (shape.Amount 8 u)
    (position_cases (λ y. has_units y ≡ true) u v refl (λ k n low cost name other. refl) x h)
    (position_cases (λ y. LiesIn (units_of y) (shape.Amount 8 u)) u v tt
    (λ k n low cost name other. (refl, low, name)) x h)
on_units x (shape.Inventory q u v) h =
    fits_then (has_units x) (units_of x) (shape.Inventory q u 0)
    (λ held. inventory_cases (λ y. has_units y ≡ true) q u v refl
    (λ b places units cost. sums_are_held [] (map without_lot b.held)
    (let low = most_of_units q u 0 held in
    let t = bare_units b.held in omega (arith, low, t, units))) x h)
    (inventory_cases (λ y. LiesIn (units_of y) (shape.Inventory q u 0)) q u v tt
    (λ b places units cost. let t = units_low b.held in
    (places, omega (arith, t.0, units), omega (arith, t.1))) x h)
on_units x shape.Truth h = tt
on_units x shape.Text h = tt
on_units x shape.Day h = tt
on_units x shape.Set h = tt
on_units x (shape.Number q m) h = tt
on_units x (shape.Amount q m) h = tt

on_cost : (x : Value) (s : Shape) → LiesIn x s
    → Has (checked (has_cost x) (cost_of x)) (rule.cost_of s)
on_cost x (shape.Position u v) h =
    fits (has_cost x) (cost_of x) (shape.Amount 16 (max v (u * 10 ^ 8)))
    (position_cases (λ y. has_cost y ≡ true) u v refl (λ k n low cost name other. refl) x h)
    (position_cases (λ y. LiesIn (cost_of y) (shape.Amount 16 (max v (u * 10 ^ 8)))) u v tt
    (λ k n low cost name other. (refl, cost_within k.lot n u v low cost, other)) x h)
on_cost x (shape.Inventory q u v) h =
    fits_then (has_cost x) (cost_of x) (shape.Inventory (q + 8) (v + u * 10 ^ 8) 0)
    (λ held. inventory_cases (λ y. has_cost y ≡ true) q u v refl
    (λ b places units cost. sums_are_held [] (map at_cost b.held)
    (let low = most_of_units (q + 8) (v + u * 10 ^ 8) 0 held in
    let t = cost_units b.held in omega (arith, low, t, units, cost))) x h)
    (inventory_cases (λ y. LiesIn (cost_of y) (shape.Inventory (q + 8) (v + u * 10 ^ 8) 0)) q u v tt
    (λ b places units cost. let t = costs_low b.held in
    (ap (λ (p : ℕ). p + 8) places, omega (arith, t.0, units, cost), omega (arith, t.1))) x h)
on_cost x shape.Truth h = tt
on_cost x shape.Text h = tt
on_cost x shape.Day h = tt
on_cost x shape.Set h = tt
on_cost x (shape.Number q m) h = tt
on_cost x (shape.Amount q m) h = tt

-- ---- lists

-- null is like everything
null_alike : (ys : List Value) → list_all (are_alike value.Null) ys ≡ true
null_alike [] = refl
null_alike (y ∷ ys) = null_alike ys

-- what is like each member in kind and decimals is alike to all
abbrev AreAlike : Value → Shape → Type 0
AreAlike x s = (y : Value) → rule.is_like s y ≡ true → are_alike x y ≡ true

all_alike : (x : Value) (s : Shape) → AreAlike x s → (ys : List Value)
    → list_all (rule.is_like s) ys ≡ true → list_all (are_alike x) ys ≡ true
all_alike x s alike [] h = refl
all_alike x s alike (y ∷ ys) h =
    let parts = and_parts (rule.is_like s y) (list_all (rule.is_like s) ys) h in
    and_from (are_alike x y) (list_all (are_alike x) ys) (alike y parts.0)
    (all_alike x s alike ys parts.1)

text_alike : (t : List ℕ) → AreAlike (value.Text t) shape.Text
text_alike t value.Null h = absurd cc
text_alike t (value.Truth b) h = absurd cc
text_alike t (value.Text u) h = refl
text_alike t (value.Day d) h = absurd cc
text_alike t (value.Set ts) h = absurd cc
text_alike t (value.Number p n) h = absurd cc
text_alike t (value.Amount p c n) h = absurd cc
text_alike t (value.Position k n) h = absurd cc
text_alike t (value.Inventory b) h = absurd cc

day_alike : (d : day.Day) → AreAlike (value.Day d) shape.Day
day_alike d value.Null h = absurd cc
day_alike d (value.Truth b) h = absurd cc
day_alike d (value.Text u) h = absurd cc
day_alike d (value.Day e) h = refl
day_alike d (value.Set ts) h = absurd cc
day_alike d (value.Number p n) h = absurd cc
day_alike d (value.Amount p c n) h = absurd cc
day_alike d (value.Position k n) h = absurd cc
day_alike d (value.Inventory b) h = absurd cc

number_alike : (q m : ℕ) (n : ℤ) → AreAlike (value.Number q n) (shape.Number q m)
number_alike q m n value.Null h = absurd cc
number_alike q m n (value.Truth b) h = absurd cc
number_alike q m n (value.Text u) h = absurd cc
number_alike q m n (value.Day e) h = absurd cc
number_alike q m n (value.Set ts) h = absurd cc
number_alike q m n (value.Number p k) h = h
number_alike q m n (value.Amount p c k) h = absurd cc
number_alike q m n (value.Position k i) h = absurd cc
number_alike q m n (value.Inventory b) h = absurd cc

-- a value of a shape that has an order may be looked for among members like it
may_be_among : (ys : List Value) (x : Value) (s : Shape) → LiesIn x s
    → (rule.is_ranked s && list_all (rule.is_like s) ys) ≡ true
    → (is_ordered x && list_all (are_alike x) ys) ≡ true
may_be_among ys x shape.Text h like =
    text_cases (λ y. (is_ordered y && list_all (are_alike y) ys) ≡ true) (null_alike ys)
    (λ t short. all_alike (value.Text t) shape.Text (text_alike t) ys like) x h
may_be_among ys x shape.Day h like =
    day_cases (λ y. (is_ordered y && list_all (are_alike y) ys) ≡ true) (null_alike ys)
    (λ d. all_alike (value.Day d) shape.Day (day_alike d) ys like) x h
may_be_among ys x (shape.Number q m) h like =
    number_cases (λ y. (is_ordered y && list_all (are_alike y) ys) ≡ true) q m (null_alike ys)
    (λ n low. all_alike (value.Number q n) (shape.Number q m) (number_alike q m n) ys like) x h
may_be_among ys x shape.Truth h like = absurd cc
may_be_among ys x shape.Set h like = absurd cc
may_be_among ys x (shape.Amount q m) h like = absurd cc
may_be_among ys x (shape.Position u v) h like = absurd cc
may_be_among ys x (shape.Inventory q u v) h like = absurd cc

on_list : (ys : List Value) (x : Value) (s : Shape) → LiesIn x s
    → Has (checked (is_ordered x && list_all (are_alike x) ys) (value.Truth (is_among ys x)))
    (rule.among ys s)
on_list ys x s h = by (rule.is_ranked s && list_all (rule.is_like s) ys) refl
  where
    by : (b : Bool) → (rule.is_ranked s && list_all (rule.is_like s) ys) ≡ b
        → Has (checked (is_ordered x && list_all (are_alike x) ys) (value.Truth (is_among ys x)))
        (cond b (Ok shape.Truth) (Err Kind))
    by false e = tt
    by true e =
        gives_truth (is_ordered x && list_all (are_alike x) ys) (is_among ys x)
        (may_be_among ys x s h e)

-- ---- the operations

pub unary_keeps : (op : unary.Unary) (x : Value) (s : Shape) → LiesIn x s
    → Has (checked (may_unary op x) (unary_value op x)) (unary_shape op s)
unary_keeps (unary.Align places) x s h = on_align places x s h
unary_keeps unary.Neg x s h = on_negative x s h
unary_keeps unary.Abs x s h = on_magnitude x s h
unary_keeps unary.Not x s h = of_truth (λ y. not (is_true y)) x s h
unary_keeps unary.IsNull x s h = gives_truth true (is_null x) refl
unary_keeps (unary.Match pattern) x s h = truth_of_text (has_match (is_found pattern)) x s h
unary_keeps (unary.MatchAny pattern) x s h = truth_of_set (has_member (is_found pattern)) x s h
unary_keeps (unary.InList ys) x s h = on_list ys x s h
unary_keeps unary.Year x s h =
    on_day (λ d. whole (unsigned_abs d.date.year)) (rule.whole 9999) refl
    (λ d. (refl, low_year d)) x s h
unary_keeps unary.Month x s h =
    on_day (λ d. whole d.date.month) (rule.whole 12) refl (λ d. (refl, low_month d)) x s h
unary_keeps unary.Day x s h =
    on_day (λ d. whole d.date.day) (rule.whole 31) refl (λ d. (refl, low_day d)) x s h
unary_keeps (unary.Root n) x s h =
    on_text (λ t. value.Text (root_part n t)) shape.Text refl (short_front n) x s h
unary_keeps unary.Parent x s h =
    on_text (λ t. value.Text (parent_part t)) shape.Text refl short_parent x s h
unary_keeps unary.Leaf x s h =
    on_text (λ t. value.Text (leaf_part t)) shape.Text refl short_leaf x s h
unary_keeps unary.Length x s h = on_length x s h
unary_keeps unary.Units x s h = on_units x s h
unary_keeps unary.Cost x s h = on_cost x s h
unary_keeps unary.Number x s h = on_number x s h
unary_keeps unary.Currency x s h = on_currency x s h
unary_keeps unary.RootRank x s h =
    on_text (λ t. whole (root_rank t)) (rule.whole 5) refl (λ t short. (refl, low_rank t)) x s h
