-- What one position more does to the masses of an inventory.
use Rattle.std.proofs.Common.{◌≡◌, ℕ, ◌+◌, ◌*◌, ◌^◌, ◌<◌, ◌≤◌, max, ap, neg_ℤ, ℤ, pos, ◌+ℤ◌, List}
use Rattle.std.proofs.Common.{[], ◌∷◌, ◌++◌}
use Rattle.std.proofs.Common.{map, Option, Some, None, Bool, true, false, cond, refl, sym, subst}
use Rattle.std.proofs.Common.{arith}
use Rattle.std.specs.Prelude.{◌&&◌}
use Rattle.std.specs.Int.RustNames.{unsigned_abs}
use Rattle.std.specs.List.{list_all}
use Rattle.std.specs.Ordering.{int_eq}
use Rattle.std.proofs.Math.Nat.{mul-le-mul_right, add-mul}
use Rattle.std.proofs.lemmas.Int.{ints, unsigned_abs-mul}
use Rattle.std.proofs.lemmas.Bool.{and_from, lt-ltb}
use Rattle.bean_lots.specs.Inventory.{added, count_of, held_as, negative_entry}
use Rattle.bean_lots.specs.Lot.{same_key}
use Rattle.bean_lots.specs.declared.lot.Key.{Key}
use Rattle.bean_lots.specs.declared.lot.Lot.{Lot}
use Rattle.bean_lots.specs.declared.lot.Position.{Position}
use Rattle.bean_lots.proofs.LotFacts.{same_key_Decides}
use Rattle.query_values.specs.Held.{has_count}
use Rattle.query_holdings.specs.Total.{adds_up, at_cost, cost_count, cost_total, is_count, total_from}
use Rattle.query_holdings.specs.Total.{units_total, without_lot}
use Rattle.query_rows.specs.Mass.{units_mass, value_mass, value_of}

abs_sum : (a b : ℤ) → unsigned_abs (a +ℤ b) ≤ unsigned_abs a + unsigned_abs b
abs_sum a b = omega (arith, ints)

-- ---- one position more

held_units : (k : Key) (n : ℤ) (es : List Position)
    → units_mass (held_as k n ++ es) ≤ unsigned_abs n + units_mass es
held_units k n es = by (int_eq n (pos 0))
  where
    by : (b : Bool)
        → units_mass (cond b [] (record { key = k; count = n } ∷ []) ++ es)
        ≤ unsigned_abs n + units_mass es
    by true = omega arith
    by false = omega arith

alone_units : (k : Key) (n : ℤ) → units_mass (held_as k n) ≤ unsigned_abs n
alone_units k n = by (int_eq n (pos 0))
  where
    by : (b : Bool)
        → units_mass (cond b [] (record { key = k; count = n } ∷ [])) ≤ unsigned_abs n
    by true = omega arith
    by false = omega arith

pub added_units : (es : List Position) (k : Key) (n : ℤ)
    → units_mass (added es k n) ≤ units_mass es + unsigned_abs n
added_units [] k n = let t = alone_units k n in omega (arith, t)
added_units (e ∷ es) k n = by (same_key k e.key) (added_units es k n)
  where
    by : (b : Bool) → units_mass (added es k n) ≤ units_mass es + unsigned_abs n
        → units_mass (cond b (held_as e.key (e.count +ℤ n) ++ es) (e ∷ added es k n))
        ≤ (unsigned_abs e.count + units_mass es) + unsigned_abs n
    by true h =
        let t = held_units e.key (e.count +ℤ n) es in
        let s = abs_sum e.count n in
        omega (arith, t, s)
    by false h = omega (arith, h)

held_values : (k : Key) (n : ℤ) (es : List Position)
    → value_mass (held_as k n ++ es) ≤ value_of k.lot n + value_mass es
held_values k n es = by (int_eq n (pos 0))
  where
    by : (b : Bool)
        → value_mass (cond b [] (record { key = k; count = n } ∷ []) ++ es)
        ≤ value_of k.lot n + value_mass es
    by true = omega arith
    by false = omega arith

alone_values : (k : Key) (n : ℤ) → value_mass (held_as k n) ≤ value_of k.lot n
alone_values k n = by (int_eq n (pos 0))
  where
    by : (b : Bool)
        → value_mass (cond b [] (record { key = k; count = n } ∷ [])) ≤ value_of k.lot n
    by true = omega arith
    by false = omega arith

value_sum : (lot : Option Lot) (m n : ℤ)
    → value_of lot (m +ℤ n) ≤ value_of lot m + value_of lot n
value_sum None m n = omega arith
value_sum (Some lot) m n =
    let c = unsigned_abs lot.cost.count in
    subst (λ x. unsigned_abs (m +ℤ n) * c ≤ x) (add-mul (unsigned_abs m) (unsigned_abs n) c)
    (mul-le-mul_right c (abs_sum m n))

pub added_values : (es : List Position) (k : Key) (n : ℤ)
    → value_mass (added es k n) ≤ value_mass es + value_of k.lot n
added_values [] k n = let t = alone_values k n in omega (arith, t)
added_values (e ∷ es) k n = by (same_key k e.key) refl (added_values es k n)
  where
    by : (b : Bool) → same_key k e.key ≡ b
        → value_mass (added es k n) ≤ value_mass es + value_of k.lot n
        → value_mass (cond b (held_as e.key (e.count +ℤ n) ++ es) (e ∷ added es k n))
        ≤ (value_of e.key.lot e.count + value_mass es) + value_of k.lot n
    by true same h =
        let is : k ≡ e.key = (same_key_Decides k e.key).0 same in
        let t = held_values e.key (e.count +ℤ n) es in
        let s = value_sum e.key.lot e.count n in
        subst
        (λ (q : Key). value_mass (held_as e.key (e.count +ℤ n) ++ es)
        ≤ (value_of e.key.lot e.count + value_mass es) + value_of q.lot n) (sym is)
        (omega (arith, t, s))
    by false same h = omega (arith, h)

-- ---- sums

pub total_units : (es ps : List Position)
    → units_mass (total_from es ps) ≤ units_mass es + units_mass ps
total_units es [] = omega arith
total_units es (p ∷ ps) =
    let t = total_units (added es p.key p.count) ps in
    let u = added_units es p.key p.count in
    omega (arith, t, u)

pub total_values : (es ps : List Position)
    → value_mass (total_from es ps) ≤ value_mass es + value_mass ps
total_values es [] = omega arith
total_values es (p ∷ ps) =
    let t = total_values (added es p.key p.count) ps in
    let u = added_values es p.key p.count in
    omega (arith, t, u)

count_below : (es : List Position) (k : Key) → unsigned_abs (count_of es k) ≤ units_mass es
count_below [] k = omega arith
count_below (e ∷ es) k = by (same_key k e.key) (count_below es k)
  where
    by : (b : Bool) → unsigned_abs (count_of es k) ≤ units_mass es
        → unsigned_abs (cond b e.count (count_of es k)) ≤ unsigned_abs e.count + units_mass es
    by true h = omega arith
    by false h = omega (arith, h)

pub is_held_count : (n : ℤ) → unsigned_abs n < 2 ^ 127 → is_count n ≡ true
is_held_count n low = lt-ltb (unsigned_abs n) (2 ^ 127) low

pub have_counts : (es : List Position) → units_mass es < 2 ^ 127 → list_all has_count es ≡ true
have_counts [] low = refl
have_counts (e ∷ es) low =
    and_from (is_count e.count) (list_all has_count es)
    (is_held_count e.count (omega (arith, low))) (have_counts es (omega (arith, low)))

-- no sum on the way is above the masses together
pub sums_are_held : (es ps : List Position) → units_mass es + units_mass ps < 2 ^ 127
    → adds_up es ps ≡ true
sums_are_held es [] low = refl
sums_are_held es (p ∷ ps) low =
    let c = count_below es p.key in
    let s = abs_sum (count_of es p.key) p.count in
    let u = added_units es p.key p.count in
    let own = is_held_count p.count (omega (arith, low)) in
    let sum = is_held_count (count_of es p.key +ℤ p.count) (omega (arith, low, c, s)) in
    let rest = sums_are_held (added es p.key p.count) ps (omega (arith, low, u)) in
    and_from (is_count p.count && is_count (count_of es p.key +ℤ p.count))
    (adds_up (added es p.key p.count) ps)
    (and_from (is_count p.count) (is_count (count_of es p.key +ℤ p.count)) own sum) rest

-- ---- units, and at cost

pub bare_units : (es : List Position) → units_mass (map without_lot es) ≡ units_mass es
bare_units [] = refl
bare_units (e ∷ es) = let t = bare_units es in omega (arith, t)

pub bare_values : (es : List Position) → value_mass (map without_lot es) ≡ 0
bare_values [] = refl
bare_values (e ∷ es) = let t = bare_values es in omega (arith, t)

-- what units cost is what their lots do, or themselves with 8 decimals more
pub cost_low : (lot : Option Lot) (n : ℤ)
    → unsigned_abs (cost_count lot n) ≤ value_of lot n + unsigned_abs n * 10 ^ 8
cost_low None n = let t = unsigned_abs-mul n (pos (10 ^ 8)) in omega (arith, t)
cost_low (Some lot) n = let t = unsigned_abs-mul n lot.cost.count in omega (arith, t)

pub cost_units : (es : List Position)
    → units_mass (map at_cost es) ≤ value_mass es + units_mass es * 10 ^ 8
cost_units [] = omega arith
cost_units (e ∷ es) =
    let t = cost_units es in
    let c = cost_low e.key.lot e.count in
    omega (arith, t, c)

pub cost_values : (es : List Position) → value_mass (map at_cost es) ≡ 0
cost_values [] = refl
cost_values (e ∷ es) = let t = cost_values es in omega (arith, t)

pub units_low : (es : List Position)
    → (units_mass (units_total es) ≤ units_mass es) × (value_mass (units_total es) ≤ 0)
units_low es =
    let t = total_units [] (map without_lot es) in
    let u = total_values [] (map without_lot es) in
    let b = bare_units es in
    let c = bare_values es in
    (omega (arith, t, b), omega (arith, u, c))

pub costs_low : (es : List Position)
    → (units_mass (cost_total es) ≤ value_mass es + units_mass es * 10 ^ 8)
    × (value_mass (cost_total es) ≤ 0)
costs_low es =
    let t = total_units [] (map at_cost es) in
    let u = total_values [] (map at_cost es) in
    let b = cost_units es in
    let c = cost_values es in
    (omega (arith, t, b), omega (arith, u, c))

-- ---- of the other sign

pub negative_value : (lot : Option Lot) (n : ℤ) → value_of lot (neg_ℤ n) ≡ value_of lot n
negative_value None n = refl
negative_value (Some lot) n =
    ap (λ (m : ℕ). m * unsigned_abs lot.cost.count) (omega (arith, ints))

pub negative_units : (es : List Position) → units_mass (map negative_entry es) ≡ units_mass es
negative_units [] = refl
negative_units (e ∷ es) =
    let t = negative_units es in
    let s : unsigned_abs (neg_ℤ e.count) ≡ unsigned_abs e.count = omega (arith, ints) in
    omega (arith, t, s)

pub negative_values : (es : List Position) → value_mass (map negative_entry es) ≡ value_mass es
negative_values [] = refl
negative_values (e ∷ es) =
    let t = negative_values es in
    let s = negative_value e.key.lot e.count in
    omega (arith, t, s)

-- what a position costs is within the value of its lot, or its units with 8 decimals more
pub cost_within : (lot : Option Lot) (n : ℤ) (u v : ℕ) → unsigned_abs n ≤ u → value_of lot n ≤ v
    → unsigned_abs (cost_count lot n) ≤ max v (u * 10 ^ 8)
cost_within None n u v low cost =
    let t = unsigned_abs-mul n (pos (10 ^ 8)) in
    omega (arith, t, low)
cost_within (Some lot) n u v low cost =
    let t = unsigned_abs-mul n lot.cost.count in
    omega (arith, t, cost)
