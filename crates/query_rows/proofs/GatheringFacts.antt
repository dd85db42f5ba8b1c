-- What is gathered keeps shapes.
use Rattle.std.proofs.Common.{◌≡◌, ℕ, ◌+◌, ◌*◌, ◌≤◌, ℤ, ◌+ℤ◌, Bool, true, false}
use Rattle.std.proofs.Common.{cond, not}
use Rattle.std.proofs.Common.{List, [], ◌∷◌, length, Some, None, Ok, Err, eqb, refl}
use Rattle.std.proofs.Common.{sym}
use Rattle.std.proofs.Common.{ap, subst, arith, suc}
use Rattle.std.specs.Int.RustNames.{unsigned_abs}
use Rattle.std.proofs.Math.Nat.{mul-le-mul, mul-le-mul_right}
use Rattle.std.proofs.lemmas.Bool.{eqb-true, eq-eqb}
use Rattle.std.proofs.lemmas.Int.{ints}
use Rattle.bean_lots.specs.declared.lot.Position.{Position}
use Rattle.query_values.specs.Aggregate.{aggregate_of, best_from, best_of, count_in, entries_in}
use Rattle.query_values.specs.Aggregate.{first_of, is_entry, is_greater, is_summand, last_from}
use Rattle.query_values.specs.Aggregate.{last_of, may_take, present, sum_in}
use Rattle.query_values.specs.Held.{checked}
use Rattle.query_values.specs.Operand.{are_in_order}
use Rattle.query_values.specs.Operation.{whole}
use Rattle.query_values.specs.Order.{is_less, is_null}
use Rattle.query_values.specs.declared.operation.Aggregate.{Aggregate}
use Rattle.query_values.specs.declared.operation.Aggregate.TheVariants as aggregate
use Rattle.query_values.specs.declared.value.Value.{Value}
use Rattle.query_values.specs.declared.value.Value.TheVariants as value
use Rattle.query_rows.specs.Keeping.{AllIn, Has, Under}
use Rattle.query_rows.specs.Mass.{units_mass, value_mass}
use Rattle.query_rows.specs.Rules as rule
use Rattle.query_rows.specs.Rules.{aggregate_shape}
use Rattle.query_rows.specs.Shape.{IsBelow, LiesIn, fitting}
use Rattle.query_rows.specs.declared.shape.Misfit.TheVariants.{Kind}
use Rattle.query_rows.specs.declared.shape.Shape.{Shape}
use Rattle.query_rows.specs.declared.shape.Shape.TheVariants as shape
use Rattle.query_rows.proofs.BinaryFacts.{are_told}
use Rattle.query_rows.proofs.FittingFacts.{fits}
use Rattle.query_rows.proofs.MassFacts.{total_units, total_values}
use Rattle.query_rows.proofs.OrderFacts.{below_cases}
use Rattle.query_rows.proofs.RisingFacts.{both_if, fitting_below}
use Rattle.query_rows.proofs.ShapeCases.{number_cases, amount_cases, position_cases}

-- ---- counts

few_present : (xs : List Value) → length (present xs) ≤ length xs
few_present [] = omega arith
few_present (x ∷ xs) = by (is_null x) (few_present xs)
  where
    by : (b : Bool) → length (present xs) ≤ length xs
        → length (cond (not b) (x ∷ present xs) (present xs)) ≤ suc (length xs)
    by true h = omega (arith, h)
    by false h = omega (arith, h)

-- ---- sums

low_count : (q m : ℕ) (x : Value) → LiesIn x (shape.Number q m) → unsigned_abs (count_in x) ≤ m
low_count q m = number_cases (λ y. unsigned_abs (count_in y) ≤ m) q m (omega arith) (λ n low. low)

low_sums : (q m : ℕ) (xs : List Value) → AllIn (shape.Number q m) xs
    → unsigned_abs (sum_in xs) ≤ length xs * m
low_sums q m [] all = omega arith
low_sums q m (x ∷ xs) all =
    let one = low_count q m x all.0 in
    let rest = low_sums q m xs all.1 in
    let both : unsigned_abs (count_in x +ℤ sum_in xs)
    ≤ unsigned_abs (count_in x) + unsigned_abs (sum_in xs) = omega (arith, ints) in
    let times : suc (length xs) * m ≡ m + length xs * m = omega arith in
    subst (λ (z : ℕ). unsigned_abs (count_in x +ℤ sum_in xs) ≤ z) (sym times)
    (omega (arith, one, rest, both))

-- no more than so many of them
few : (n k m z : ℕ) → k ≤ n → z ≤ k * m → z ≤ n * m
few n k m z low h = let t = mul-le-mul_right m low in omega (arith, t, h)

on_sum : (n p : ℕ) (s : Shape) (xs : List Value) → length xs ≤ n → AllIn s xs
    → Has (checked true (aggregate_of (aggregate.Sum p) xs)) (rule.summed n p s)
on_sum n p (shape.Number q m) xs low all = by (eqb q p) refl
  where
    by : (b : Bool) → eqb q p ≡ b
        → Has (checked true (value.Number p (sum_in xs)))
        (cond b (fitting (shape.Number q (n * m))) (Err Kind))
    by false e = tt
    by true e =
        fits true (value.Number p (sum_in xs)) (shape.Number q (n * m)) refl (
          sym (eqb-true q p e),
          few n (length xs) m (unsigned_abs (sum_in xs)) low
              (low_sums q m xs all),
        )
on_sum n p shape.Truth xs low all = tt
on_sum n p shape.Text xs low all = tt
on_sum n p shape.Day xs low all = tt
on_sum n p shape.Set xs low all = tt
on_sum n p (shape.Amount q m) xs low all = tt
on_sum n p (shape.Position u v) xs low all = tt
on_sum n p (shape.Inventory q u v) xs low all = tt

-- ---- inventories

-- what an amount, or a position, adds to an inventory
low_amount : (q m : ℕ) (x : Value) (xs : List Value) → LiesIn x (shape.Amount q m)
    → (units_mass (entries_in (x ∷ xs)) ≤ m + units_mass (entries_in xs))
    × (value_mass (entries_in (x ∷ xs)) ≤ value_mass (entries_in xs))
low_amount q m x xs =
    amount_cases (λ y. (units_mass (entries_in (y ∷ xs)) ≤ m + units_mass (entries_in xs))
    × (value_mass (entries_in (y ∷ xs)) ≤ value_mass (entries_in xs))) q m
    (omega arith, omega arith) (λ n c low name. (omega (arith, low), omega arith)) x

low_amounts : (q m : ℕ) (xs : List Value) → AllIn (shape.Amount q m) xs
    → (units_mass (entries_in xs) ≤ length xs * m) × (value_mass (entries_in xs) ≤ 0)
low_amounts q m [] all = (omega arith, omega arith)
low_amounts q m (x ∷ xs) all =
    let one = low_amount q m x xs all.0 in
    let rest = low_amounts q m xs all.1 in
    let times : suc (length xs) * m ≡ m + length xs * m = omega arith in (
      subst (λ (z : ℕ). units_mass (entries_in (x ∷ xs)) ≤ z) (sym times)
          (omega (arith, one.0, rest.0)),
      omega (arith, one.1, rest.1),
    )

low_position : (u v : ℕ) (x : Value) (xs : List Value) → LiesIn x (shape.Position u v)
    → (units_mass (entries_in (x ∷ xs)) ≤ u + units_mass (entries_in xs))
    × (value_mass (entries_in (x ∷ xs)) ≤ v + value_mass (entries_in xs))
low_position u v x xs =
    position_cases (λ y. (units_mass (entries_in (y ∷ xs)) ≤ u + units_mass (entries_in xs))
    × (value_mass (entries_in (y ∷ xs)) ≤ v + value_mass (entries_in xs))) u v
    (omega arith, omega arith)
    (λ k n low cost name other. (omega (arith, low), omega (arith, cost))) x

low_positions : (u v : ℕ) (xs : List Value) → AllIn (shape.Position u v) xs
    → (units_mass (entries_in xs) ≤ length xs * u) × (value_mass (entries_in xs) ≤ length xs * v)
low_positions u v [] all = (omega arith, omega arith)
low_positions u v (x ∷ xs) all =
    let one = low_position u v x xs all.0 in
    let rest = low_positions u v xs all.1 in
    let units : suc (length xs) * u ≡ u + length xs * u = omega arith in
    let cost : suc (length xs) * v ≡ v + length xs * v = omega arith in (
      subst (λ (z : ℕ). units_mass (entries_in (x ∷ xs)) ≤ z) (sym units)
          (omega (arith, one.0, rest.0)),
      subst (λ (z : ℕ). value_mass (entries_in (x ∷ xs)) ≤ z) (sym cost)
          (omega (arith, one.1, rest.1)),
    )

on_inventory : (n p : ℕ) (s : Shape) (xs : List Value) → length xs ≤ n → AllIn s xs
    → Has (checked true (aggregate_of (aggregate.SumInventory p) xs)) (rule.gathered n p s)
on_inventory n p (shape.Amount q m) xs low all = by (eqb q p) refl
  where
    by : (b : Bool) → eqb q p ≡ b
        → Has (checked true (aggregate_of (aggregate.SumInventory p) xs))
        (cond b (fitting (shape.Inventory q (n * m) 0)) (Err Kind))
    by false e = tt
    by true e =
        let sums = low_amounts q m xs all in
        let t = total_units [] (entries_in xs) in
        let w = total_values [] (entries_in xs) in
        fits true (aggregate_of (aggregate.SumInventory p) xs) (shape.Inventory q (n * m) 0) refl (
          sym (eqb-true q p e),
          (let f = few n (length xs) m (units_mass (entries_in xs)) low sums.0 in
              omega (arith, t, f)),
          omega (arith, w, sums.1),
        )
on_inventory n p (shape.Position u v) xs low all = by (eqb 8 p) refl
  where
    by : (b : Bool) → eqb 8 p ≡ b
        → Has (checked true (aggregate_of (aggregate.SumInventory p) xs))
        (cond b (fitting (shape.Inventory 8 (n * u) (n * v))) (Err Kind))
    by false e = tt
    by true e =
        let sums = low_positions u v xs all in
        let t = total_units [] (entries_in xs) in
        let w = total_values [] (entries_in xs) in
        fits true (aggregate_of (aggregate.SumInventory p) xs) (shape.Inventory 8 (n * u) (n * v))
        refl (
          sym (eqb-true 8 p e),
          (let f = few n (length xs) u (units_mass (entries_in xs)) low sums.0 in
              omega (arith, t, f)),
          (let f = few n (length xs) v (value_mass (entries_in xs)) low sums.1 in
              omega (arith, w, f)),
        )
on_inventory n p shape.Truth xs low all = tt
on_inventory n p shape.Text xs low all = tt
on_inventory n p shape.Day xs low all = tt
on_inventory n p shape.Set xs low all = tt
on_inventory n p (shape.Number q m) xs low all = tt
on_inventory n p (shape.Inventory q u v) xs low all = tt

-- ---- one of the values

null_lies : (s : Shape) → LiesIn value.Null s
null_lies s = tt

all_present : (s : Shape) (xs : List Value) → AllIn s xs → AllIn s (present xs)
all_present s [] all = tt
all_present s (x ∷ xs) all = by (is_null x) (all_present s xs all.1)
  where
    by : (b : Bool) → AllIn s (present xs) → AllIn s (cond (not b) (x ∷ present xs) (present xs))
    by true rest = rest
    by false rest = (all.0, rest)

lies_first : (s : Shape) (xs : List Value) → AllIn s xs → LiesIn (first_of xs) s
lies_first s [] all = null_lies s
lies_first s (x ∷ xs) all = all.0

lies_last : (s : Shape) (x : Value) (xs : List Value) → LiesIn x s → AllIn s xs
    → LiesIn (last_from x xs) s
lies_last s x [] h all = h
lies_last s x (y ∷ ys) h all = lies_last s y ys all.0 all.1

lies_best : (s : Shape) (better : Value → Value → Bool) (x : Value) (xs : List Value) → LiesIn x s
    → AllIn s xs → LiesIn (best_from better x xs) s
lies_best s better x [] h all = h
lies_best s better x (y ∷ ys) h all =
    lies_best s better (cond (better y x) y x) ys (by (better y x)) all.1
  where
    by : (b : Bool) → LiesIn (cond b y x) s
    by true = all.0
    by false = h

lies_best_of : (s : Shape) (better : Value → Value → Bool) (xs : List Value) → AllIn s xs
    → LiesIn (best_of better xs) s
lies_best_of s better [] all = null_lies s
lies_best_of s better (x ∷ xs) all = lies_best s better x xs all.0 all.1

on_best : (s : Shape) (better : Value → Value → Bool) (xs : List Value) → AllIn s xs
    → Has (checked true (best_of better (present xs))) (rule.ranked s)
on_best s better xs all = by (rule.is_ranked s)
  where
    by : (b : Bool)
        → Has (checked true (best_of better (present xs))) (cond b (fitting s) (Err Kind))
    by false = tt
    by true =
        fits true (best_of better (present xs)) s refl
        (lies_best_of s better (present xs) (all_present s xs all))

pub on_rows : (n : ℕ) (xs : List Value) → length xs ≤ n
    → Has (checked true (aggregate_of aggregate.CountRows xs))
    (aggregate_shape n aggregate.CountRows None)
on_rows n xs low = fits true (whole (length xs)) (rule.whole n) refl (refl, low)

pub on_values : (a : Aggregate) (n : ℕ) (s : Shape) (xs : List Value) → length xs ≤ n → AllIn s xs
    → Has (checked true (aggregate_of a xs)) (aggregate_shape n a (Some s))
on_values aggregate.CountRows n s xs low all = tt
on_values aggregate.Count n s xs low all =
    fits true (whole (length (present xs))) (rule.whole n) refl
    (refl, (let f = few_present xs in omega (arith, f, low)))
on_values (aggregate.Sum p) n s xs low all = on_sum n p s xs low all
on_values (aggregate.SumInventory p) n s xs low all = on_inventory n p s xs low all
on_values aggregate.First n s xs low all =
    fits true (first_of (present xs)) s refl (lies_first s (present xs) (all_present s xs all))
on_values aggregate.Last n s xs low all =
    fits true (last_of (present xs)) s refl
    (lies_last s value.Null (present xs) (null_lies s) (all_present s xs all))
on_values aggregate.Min n s xs low all = on_best s is_less xs all
on_values aggregate.Max n s xs low all = on_best s is_greater xs all

-- ---- one value more

sums_on : (n p : ℕ) (s t : Shape) (x : Value) → rule.summed n p s ≡ Ok t → LiesIn x s
    → is_summand p x ≡ true
sums_on n p (shape.Number q m) t x e h = by (eqb q p) refl e
  where
    by : (b : Bool) → eqb q p ≡ b → cond b (fitting (shape.Number q (n * m))) (Err Kind) ≡ Ok t
        → is_summand p x ≡ true
    by false is e = absurd cc
    by true is e = number_cases (λ y. is_summand p y ≡ true) q m refl (λ k low. is) x h
sums_on n p shape.Truth t x e h = absurd cc
sums_on n p shape.Text t x e h = absurd cc
sums_on n p shape.Day t x e h = absurd cc
sums_on n p shape.Set t x e h = absurd cc
sums_on n p (shape.Amount q m) t x e h = absurd cc
sums_on n p (shape.Position u v) t x e h = absurd cc
sums_on n p (shape.Inventory q u v) t x e h = absurd cc

gathers_on : (n p : ℕ) (s t : Shape) (x : Value) → rule.gathered n p s ≡ Ok t → LiesIn x s
    → is_entry p x ≡ true
gathers_on n p (shape.Amount q m) t x e h = by (eqb q p) refl e
  where
    by : (b : Bool) → eqb q p ≡ b
        → cond b (fitting (shape.Inventory q (n * m) 0)) (Err Kind) ≡ Ok t → is_entry p x ≡ true
    by false is e = absurd cc
    by true is e = amount_cases (λ y. is_entry p y ≡ true) q m refl (λ k c low name. is) x h
gathers_on n p (shape.Position u v) t x e h = by (eqb 8 p) refl e
  where
    by : (b : Bool) → eqb 8 p ≡ b
        → cond b (fitting (shape.Inventory 8 (n * u) (n * v))) (Err Kind) ≡ Ok t
        → is_entry p x ≡ true
    by false is e = absurd cc
    by true is e =
        position_cases (λ y. is_entry p y ≡ true) u v refl
        (λ k j low cost name other. eq-eqb p 8 (sym (eqb-true 8 p is))) x h
gathers_on n p shape.Truth t x e h = absurd cc
gathers_on n p shape.Text t x e h = absurd cc
gathers_on n p shape.Day t x e h = absurd cc
gathers_on n p shape.Set t x e h = absurd cc
gathers_on n p (shape.Number q m) t x e h = absurd cc
gathers_on n p (shape.Inventory q u v) t x e h = absurd cc

-- two of one shape that has an order have one
in_order : (s : Shape) → rule.is_ranked s ≡ true → (x y : Value) → LiesIn x s → LiesIn y s
    → are_in_order x y ≡ true
in_order shape.Text e x y h k = (are_told x y shape.Text shape.Text h k refl).0
in_order shape.Day e x y h k = (are_told x y shape.Day shape.Day h k refl).0
in_order (shape.Number q m) e x y h k =
    (are_told x y (shape.Number q m) (shape.Number q m) h k
    (ap (λ (b : Bool). cond b (Ok shape.Truth) (Err Kind)) (eq-eqb q q refl))).0
in_order shape.Truth e x y h k = absurd cc
in_order shape.Set e x y h k = absurd cc
in_order (shape.Amount q m) e x y h k = absurd cc
in_order (shape.Position u v) e x y h k = absurd cc
in_order (shape.Inventory q u v) e x y h k = absurd cc

ranks : (s t : Shape) → rule.ranked s ≡ Ok t → rule.is_ranked s ≡ true
ranks s t e = by (rule.is_ranked s) refl e
  where
    by : (b : Bool) → rule.is_ranked s ≡ b → cond b (fitting s) (Err Kind) ≡ Ok t
        → rule.is_ranked s ≡ true
    by true is e = is
    by false is e = absurd cc

best_lies : (s : Shape) (better : Value → Value → Bool) (xs : List Value) → AllIn s xs
    → LiesIn (best_of better (present xs)) s
best_lies s better xs all = lies_best_of s better (present xs) (all_present s xs all)

pub takes_on : (a : Aggregate) (n : ℕ) (s t : Shape) (xs : List Value) (x : Value)
    → aggregate_shape n a (Some s) ≡ Ok t → AllIn s xs → LiesIn x s
    → may_take a (aggregate_of a xs) x ≡ true
takes_on aggregate.CountRows n s t xs x e all h = refl
takes_on aggregate.Count n s t xs x e all h = refl
takes_on (aggregate.Sum p) n s t xs x e all h = sums_on n p s t x e h
takes_on (aggregate.SumInventory p) n s t xs x e all h = gathers_on n p s t x e h
takes_on aggregate.First n s t xs x e all h = refl
takes_on aggregate.Last n s t xs x e all h = refl
takes_on aggregate.Min n s t xs x e all h =
    in_order s (ranks s t e) x (best_of is_less (present xs)) h (best_lies s is_less xs all)
takes_on aggregate.Max n s t xs x e all h =
    in_order s (ranks s t e) (best_of is_greater (present xs)) x (best_lies s is_greater xs all) h

-- ---- of lesser shapes, and of fewer values

abbrev RisesBy : (ℕ → Shape → rule.Ruled) → Shape → Shape → Type 0
RisesBy f s t = (n m : ℕ) → n ≤ m → Under (f n s) (f m t)

sum_rises : (p : ℕ) (s t : Shape) → IsBelow s t → RisesBy (λ n. rule.summed n p) s t
sum_rises p s t h =
    below_cases (RisesBy (λ n. rule.summed n p)) (record {
      truth = λ n m low. tt;
      text = λ n m low. tt;
      day = λ n m low. tt;
      set = λ n m low. tt;
      number = λ q k l less n m low.
          both_if (eqb q p) (shape.Number q (n * k)) (shape.Number q (m * l))
          (refl, mul-le-mul low less);
      amount = λ q k l less n m low. tt;
      position = λ u v w z low less n m few. tt;
      inventory = λ q u v w z low less n m few. tt;
    }) s t h

gather_rises : (p : ℕ) (s t : Shape) → IsBelow s t → RisesBy (λ n. rule.gathered n p) s t
gather_rises p s t h =
    below_cases (RisesBy (λ n. rule.gathered n p)) (record {
      truth = λ n m low. tt;
      text = λ n m low. tt;
      day = λ n m low. tt;
      set = λ n m low. tt;
      number = λ q k l less n m low. tt;
      amount = λ q k l less n m low.
          both_if (eqb q p) (shape.Inventory q (n * k) 0) (shape.Inventory q (m * l) 0)
          (refl, mul-le-mul low less, omega arith);
      position = λ u v w z low less n m few.
          both_if (eqb 8 p) (shape.Inventory 8 (n * u) (n * v)) (shape.Inventory 8 (m * w) (m * z))
          (refl, mul-le-mul few low, mul-le-mul few less);
      inventory = λ q u v w z low less n m few. tt;
    }) s t h

rank_rises : (s t : Shape) → IsBelow s t → Under (rule.ranked s) (rule.ranked t)
rank_rises s t h =
    below_cases (λ a b. Under (rule.ranked a) (rule.ranked b)) (record {
      truth = tt;
      text = tt;
      day = tt;
      set = tt;
      number = λ q k l low. fitting_below (shape.Number q k) (shape.Number q l) (refl, low);
      amount = λ q k l low. tt;
      position = λ u v w z low less. tt;
      inventory = λ q u v w z low less. tt;
    }) s t h

pub gathers_rise : (a : Aggregate) (n m : ℕ) (s t : Shape) → n ≤ m → IsBelow s t
    → Under (aggregate_shape n a (Some s)) (aggregate_shape m a (Some t))
gathers_rise aggregate.CountRows n m s t low h = tt
gathers_rise aggregate.Count n m s t low h = fitting_below (rule.whole n) (rule.whole m) (refl, low)
gathers_rise (aggregate.Sum p) n m s t low h = sum_rises p s t h n m low
gathers_rise (aggregate.SumInventory p) n m s t low h = gather_rises p s t h n m low
gathers_rise aggregate.First n m s t low h = fitting_below s t h
gathers_rise aggregate.Last n m s t low h = fitting_below s t h
gathers_rise aggregate.Min n m s t low h = rank_rises s t h
gathers_rise aggregate.Max n m s t low h = rank_rises s t h
