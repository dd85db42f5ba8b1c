-- What lies in a shape that fits can be held.
use Rattle.std.proofs.Common.{◌≡◌, ℕ, ◌^◌, ◌<◌, ◌≤◌, ℤ, Bool, true, false, cond, ◌&&◌, Ok}
use Rattle.std.proofs.Common.{Err}
use Rattle.std.proofs.Common.{Some, None, refl, sym, subst, arith}
use Rattle.std.specs.Prelude.{nat_le, nat_lt}
use Rattle.std.specs.Int.RustNames.{unsigned_abs}
use Rattle.std.specs.List.{list_all}
use Rattle.std.proofs.lemmas.Bool.{and_parts, and_from, ltb-true, lt-ltb}
use Rattle.bean_lots.specs.declared.lot.Position.{Position}
use Rattle.query_values.specs.Held as values
use Rattle.query_values.specs.Held.{checked, has_count}
use Rattle.query_terms.specs.WideCount.{is_wide}
use Rattle.query_values.specs.declared.value.Value.{Value}
use Rattle.query_rows.specs.Keeping.{Has}
use Rattle.query_rows.specs.Mass.{units_mass}
use Rattle.query_rows.specs.Shape.{LiesIn, fitting, is_held, is_most}
use Rattle.query_rows.specs.declared.shape.Misfit.TheVariants.{TooWide}
use Rattle.query_rows.specs.declared.shape.Shape.{Shape}
use Rattle.query_rows.specs.declared.shape.Shape.TheVariants as shape
use Rattle.query_rows.proofs.MassFacts.{have_counts, is_held_count}
use Rattle.query_rows.proofs.ShapeCases.{truth_cases, text_cases, day_cases, set_cases}
use Rattle.query_rows.proofs.ShapeCases.{number_cases, amount_cases, position_cases}
use Rattle.query_rows.proofs.ShapeCases.{inventory_cases}

pub below : (n m : ℕ) → n ≤ m → is_most m ≡ true → n < 2 ^ 127
below n m low most = let t = ltb-true m (2 ^ 127) most in omega (arith, low, t)

wide : (q m : ℕ) (n : ℤ) → unsigned_abs n ≤ m → (nat_le q 32 && is_most m) ≡ true
    → is_wide q n ≡ true
wide q m n low held =
    let parts = and_parts (nat_le q 32) (is_most m) held in
    and_from (nat_le q 32) (nat_lt (unsigned_abs n) (2 ^ 127)) parts.0
    (lt-ltb (unsigned_abs n) (2 ^ 127) (below (unsigned_abs n) m low parts.1))

pub held_in : (s : Shape) (x : Value) → LiesIn x s → is_held s ≡ true → values.is_held x ≡ true
held_in shape.Truth x h held = truth_cases (λ y. values.is_held y ≡ true) refl (λ b. refl) x h
held_in shape.Text x h held = text_cases (λ y. values.is_held y ≡ true) refl (λ t s. refl) x h
held_in shape.Day x h held = day_cases (λ y. values.is_held y ≡ true) refl (λ d. refl) x h
held_in shape.Set x h held = set_cases (λ y. values.is_held y ≡ true) refl (λ ts n s. refl) x h
held_in (shape.Number q m) x h held =
    number_cases (λ y. values.is_held y ≡ true) q m refl (λ n low. wide q m n low held) x h
held_in (shape.Amount q m) x h held =
    amount_cases (λ y. values.is_held y ≡ true) q m refl (λ n c low name. wide q m n low held) x h
held_in (shape.Position u v) x h held =
    let parts = and_parts (is_most u) (is_most v) held in
    position_cases (λ y. values.is_held y ≡ true) u v refl
    (λ k n low cost name other. is_held_count n (below (unsigned_abs n) u low parts.0)) x h
held_in (shape.Inventory q u v) x h held =
    let parts = and_parts (nat_le q 32) (is_most u && is_most v) held in
    let counts = and_parts (is_most u) (is_most v) parts.1 in
    inventory_cases (λ y. values.is_held y ≡ true) q u v refl
    (λ b places units cost.
    and_from (nat_le b.places 32) (list_all has_count b.held)
    (subst (λ (p : ℕ). nat_le p 32 ≡ true) (sym places) parts.0)
    (have_counts b.held (below (units_mass b.held) u units counts.0))) x h

-- a value that lies in a shape is there where the shape fits, if it may be had then
pub fits_then : (may : Bool) (x : Value) (s : Shape) → (is_held s ≡ true → may ≡ true)
    → LiesIn x s → Has (checked may x) (fitting s)
fits_then may x s when h = by (is_held s) refl
  where
    by : (b : Bool) → is_held s ≡ b → Has (checked may x) (cond b (Ok s) (Err TooWide))
    by false e = tt
    by true e =
        subst (λ (w : Bool). Has (cond w (Some x) None) (Ok s))
        (sym (and_from may (values.is_held x) (when e) (held_in s x h e))) h

pub fits : (may : Bool) (x : Value) (s : Shape) → may ≡ true → LiesIn x s
    → Has (checked may x) (fitting s)
fits may x s is h = fits_then may x s (λ e. is) h

pub most_of_units : (q u v : ℕ) → is_held (shape.Inventory q u v) ≡ true → u < 2 ^ 127
most_of_units q u v held =
    let parts = and_parts (nat_le q 32) (is_most u && is_most v) held in
    let counts = and_parts (is_most u) (is_most v) parts.1 in
    ltb-true u (2 ^ 127) counts.0
