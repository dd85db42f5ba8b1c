-- Being below is an order, of which joins are the least.
use Rattle.std.proofs.Common.{◌≡◌, ℕ, ◌-◌, ◌≤◌, max, Bool, true, false, cond}
use Rattle.std.proofs.Common.{Some, None, eqb, refl, sym, ap}
use Rattle.std.proofs.Common.{subst}
use Rattle.std.proofs.Common.{arith}
use Rattle.std.proofs.lemmas.Bool.{eq-eqb, eqb-true}
use Rattle.query_values.specs.declared.value.Value.{Value}
use Rattle.query_rows.specs.Shape.{IsBelow, LiesIn, joined}
use Rattle.query_rows.specs.declared.shape.Shape.{Shape}
use Rattle.query_rows.specs.declared.shape.Shape.TheVariants as shape
use Rattle.query_rows.proofs.ShapeCases.{number_cases, amount_cases, position_cases}
use Rattle.query_rows.proofs.ShapeCases.{inventory_cases}

-- What holds of each two shapes of one kind, the first with no greater counts. Those without counts
-- come first.
pub record OfPairs (P : Shape → Shape → Type 0) : Type 0 where
  pub truth : P shape.Truth shape.Truth
  pub text : P shape.Text shape.Text
  pub day : P shape.Day shape.Day
  pub set : P shape.Set shape.Set
  pub number : (p m n : ℕ) → m ≤ n → P (shape.Number p m) (shape.Number p n)
  pub amount : (p m n : ℕ) → m ≤ n → P (shape.Amount p m) (shape.Amount p n)
  pub position : (u v w z : ℕ) → u ≤ w → v ≤ z → P (shape.Position u v) (shape.Position w z)
  pub inventory : (p u v w z : ℕ) → u ≤ w → v ≤ z
      → P (shape.Inventory p u v) (shape.Inventory p w z)

pub below_cases : (P : Shape → Shape → Type 0) → OfPairs P → (s t : Shape) → IsBelow s t → P s t
below_cases P of shape.Truth shape.Truth h = of.truth
below_cases P of shape.Truth shape.Text h = absurd h
below_cases P of shape.Truth shape.Day h = absurd h
below_cases P of shape.Truth shape.Set h = absurd h
below_cases P of shape.Truth (shape.Number q n) h = absurd h
below_cases P of shape.Truth (shape.Amount q n) h = absurd h
below_cases P of shape.Truth (shape.Position w z) h = absurd h
below_cases P of shape.Truth (shape.Inventory q w z) h = absurd h
below_cases P of shape.Text shape.Truth h = absurd h
below_cases P of shape.Text shape.Text h = of.text
below_cases P of shape.Text shape.Day h = absurd h
below_cases P of shape.Text shape.Set h = absurd h
below_cases P of shape.Text (shape.Number q n) h = absurd h
below_cases P of shape.Text (shape.Amount q n) h = absurd h
below_cases P of shape.Text (shape.Position w z) h = absurd h
below_cases P of shape.Text (shape.Inventory q w z) h = absurd h
below_cases P of shape.Day shape.Truth h = absurd h
below_cases P of shape.Day shape.Text h = absurd h
below_cases P of shape.Day shape.Day h = of.day
below_cases P of shape.Day shape.Set h = absurd h
below_cases P of shape.Day (shape.Number q n) h = absurd h
below_cases P of shape.Day (shape.Amount q n) h = absurd h
below_cases P of shape.Day (shape.Position w z) h = absurd h
below_cases P of shape.Day (shape.Inventory q w z) h = absurd h
below_cases P of shape.Set shape.Truth h = absurd h
below_cases P of shape.Set shape.Text h = absurd h
below_cases P of shape.Set shape.Day h = absurd h
below_cases P of shape.Set shape.Set h = of.set
below_cases P of shape.Set (shape.Number q n) h = absurd h
below_cases P of shape.Set (shape.Amount q n) h = absurd h
below_cases P of shape.Set (shape.Position w z) h = absurd h
below_cases P of shape.Set (shape.Inventory q w z) h = absurd h
below_cases P of (shape.Number p m) shape.Truth h = absurd h
below_cases P of (shape.Number p m) shape.Text h = absurd h
below_cases P of (shape.Number p m) shape.Day h = absurd h
below_cases P of (shape.Number p m) shape.Set h = absurd h
below_cases P of (shape.Number p m) (shape.Number q n) h =
    subst (λ (r : ℕ). P (shape.Number p m) (shape.Number r n)) h.0 (of.number p m n h.1)
below_cases P of (shape.Number p m) (shape.Amount q n) h = absurd h
below_cases P of (shape.Number p m) (shape.Position w z) h = absurd h
below_cases P of (shape.Number p m) (shape.Inventory q w z) h = absurd h
below_cases P of (shape.Amount p m) shape.Truth h = absurd h
below_cases P of (shape.Amount p m) shape.Text h = absurd h
below_cases P of (shape.Amount p m) shape.Day h = absurd h
below_cases P of (shape.Amount p m) shape.Set h = absurd h
below_cases P of (shape.Amount p m) (shape.Number q n) h = absurd h
below_cases P of (shape.Amount p m) (shape.Amount q n) h =
    subst (λ (r : ℕ). P (shape.Amount p m) (shape.Amount r n)) h.0 (of.amount p m n h.1)
below_cases P of (shape.Amount p m) (shape.Position w z) h = absurd h
below_cases P of (shape.Amount p m) (shape.Inventory q w z) h = absurd h
below_cases P of (shape.Position u v) shape.Truth h = absurd h
below_cases P of (shape.Position u v) shape.Text h = absurd h
below_cases P of (shape.Position u v) shape.Day h = absurd h
below_cases P of (shape.Position u v) shape.Set h = absurd h
below_cases P of (shape.Position u v) (shape.Number q n) h = absurd h
below_cases P of (shape.Position u v) (shape.Amount q n) h = absurd h
below_cases P of (shape.Position u v) (shape.Position w z) h = of.position u v w z h.0 h.1
below_cases P of (shape.Position u v) (shape.Inventory q w z) h = absurd h
below_cases P of (shape.Inventory p u v) shape.Truth h = absurd h
below_cases P of (shape.Inventory p u v) shape.Text h = absurd h
below_cases P of (shape.Inventory p u v) shape.Day h = absurd h
below_cases P of (shape.Inventory p u v) shape.Set h = absurd h
below_cases P of (shape.Inventory p u v) (shape.Number q n) h = absurd h
below_cases P of (shape.Inventory p u v) (shape.Amount q n) h = absurd h
below_cases P of (shape.Inventory p u v) (shape.Position w z) h = absurd h
below_cases P of (shape.Inventory p u v) (shape.Inventory q w z) h =
    subst (λ (r : ℕ). P (shape.Inventory p u v) (shape.Inventory r w z)) h.0
    (of.inventory p u v w z h.1 h.2)

-- ---- the order

pub reflexive : (s : Shape) → IsBelow s s
reflexive shape.Truth = tt
reflexive shape.Text = tt
reflexive shape.Day = tt
reflexive shape.Set = tt
reflexive (shape.Number p m) = (refl, omega arith)
reflexive (shape.Amount p m) = (refl, omega arith)
reflexive (shape.Position u v) = (omega arith, omega arith)
reflexive (shape.Inventory p u v) = (refl, omega arith, omega arith)

number_through : (p m n : ℕ) → m ≤ n → (d : Shape) → IsBelow (shape.Number p n) d
    → IsBelow (shape.Number p m) d
number_through p m n low shape.Truth h = h
number_through p m n low shape.Text h = h
number_through p m n low shape.Day h = h
number_through p m n low shape.Set h = h
number_through p m n low (shape.Number q k) h = (h.0, omega (arith, low, h.1))
number_through p m n low (shape.Amount q k) h = h
number_through p m n low (shape.Position a b) h = h
number_through p m n low (shape.Inventory q a b) h = h

amount_through : (p m n : ℕ) → m ≤ n → (d : Shape) → IsBelow (shape.Amount p n) d
    → IsBelow (shape.Amount p m) d
amount_through p m n low shape.Truth h = h
amount_through p m n low shape.Text h = h
amount_through p m n low shape.Day h = h
amount_through p m n low shape.Set h = h
amount_through p m n low (shape.Number q k) h = h
amount_through p m n low (shape.Amount q k) h = (h.0, omega (arith, low, h.1))
amount_through p m n low (shape.Position a b) h = h
amount_through p m n low (shape.Inventory q a b) h = h

position_through : (u v w z : ℕ) → u ≤ w → v ≤ z → (d : Shape) → IsBelow (shape.Position w z) d
    → IsBelow (shape.Position u v) d
position_through u v w z low less shape.Truth h = h
position_through u v w z low less shape.Text h = h
position_through u v w z low less shape.Day h = h
position_through u v w z low less shape.Set h = h
position_through u v w z low less (shape.Number q k) h = h
position_through u v w z low less (shape.Amount q k) h = h
position_through u v w z low less (shape.Position a b) h =
    (omega (arith, low, h.0), omega (arith, less, h.1))
position_through u v w z low less (shape.Inventory q a b) h = h

inventory_through : (p u v w z : ℕ) → u ≤ w → v ≤ z → (d : Shape)
    → IsBelow (shape.Inventory p w z) d → IsBelow (shape.Inventory p u v) d
inventory_through p u v w z low less shape.Truth h = h
inventory_through p u v w z low less shape.Text h = h
inventory_through p u v w z low less shape.Day h = h
inventory_through p u v w z low less shape.Set h = h
inventory_through p u v w z low less (shape.Number q k) h = h
inventory_through p u v w z low less (shape.Amount q k) h = h
inventory_through p u v w z low less (shape.Position a b) h = h
inventory_through p u v w z low less (shape.Inventory q a b) h =
    (h.0, omega (arith, low, h.1), omega (arith, less, h.2))

pub transitive : (s t d : Shape) → IsBelow s t → IsBelow t d → IsBelow s d
transitive s t d h =
    below_cases (λ a b. (c : Shape) → IsBelow b c → IsBelow a c) (record {
      truth = λ c k. k;
      text = λ c k. k;
      day = λ c k. k;
      set = λ c k. k;
      number = number_through;
      amount = amount_through;
      position = position_through;
      inventory = inventory_through;
    }) s t h d

pub keeps : (x : Value) (s t : Shape) → LiesIn x s → IsBelow s t → LiesIn x t
keeps x s t lies h =
    below_cases (λ a b. (y : Value) → LiesIn y a → LiesIn y b) (record {
      truth = λ y k. k;
      text = λ y k. k;
      day = λ y k. k;
      set = λ y k. k;
      number = λ p m n low. number_cases (λ y. LiesIn y (shape.Number p n)) p m tt
          (λ j few. (refl, omega (arith, low, few)));
      amount = λ p m n low. amount_cases (λ y. LiesIn y (shape.Amount p n)) p m tt
          (λ j c few name. (refl, omega (arith, low, few), name));
      position = λ u v w z low less. position_cases (λ y. LiesIn y (shape.Position w z)) u v tt
          (λ k n few cost name other.
          (omega (arith, low, few), omega (arith, less, cost), name, other));
      inventory =
          λ p u v w z low less. inventory_cases (λ y. LiesIn y (shape.Inventory p w z)) p u v tt
          (λ b places units cost. (places, omega (arith, low, units), omega (arith, less, cost)));
    }) s t h x lies

-- ---- joins

some_is : {s d : Shape} → Some s ≡ Some d → s ≡ d
some_is e = cc

pub above : (s t d : Shape) → joined s t ≡ Some d → IsBelow s d × IsBelow t d
above shape.Truth shape.Truth d e =
    subst (λ (c : Shape). IsBelow shape.Truth c × IsBelow shape.Truth c) (some_is e) (tt, tt)
above shape.Truth shape.Text d e = absurd cc
above shape.Truth shape.Day d e = absurd cc
above shape.Truth shape.Set d e = absurd cc
above shape.Truth (shape.Number q n) d e = absurd cc
above shape.Truth (shape.Amount q n) d e = absurd cc
above shape.Truth (shape.Position w z) d e = absurd cc
above shape.Truth (shape.Inventory q w z) d e = absurd cc
above shape.Text shape.Truth d e = absurd cc
above shape.Text shape.Text d e =
    subst (λ (c : Shape). IsBelow shape.Text c × IsBelow shape.Text c) (some_is e) (tt, tt)
above shape.Text shape.Day d e = absurd cc
above shape.Text shape.Set d e = absurd cc
above shape.Text (shape.Number q n) d e = absurd cc
above shape.Text (shape.Amount q n) d e = absurd cc
above shape.Text (shape.Position w z) d e = absurd cc
above shape.Text (shape.Inventory q w z) d e = absurd cc
above shape.Day shape.Truth d e = absurd cc
above shape.Day shape.Text d e = absurd cc
above shape.Day shape.Day d e =
    subst (λ (c : Shape). IsBelow shape.Day c × IsBelow shape.Day c) (some_is e) (tt, tt)
above shape.Day shape.Set d e = absurd cc
above shape.Day (shape.Number q n) d e = absurd cc
above shape.Day (shape.Amount q n) d e = absurd cc
above shape.Day (shape.Position w z) d e = absurd cc
above shape.Day (shape.Inventory q w z) d e = absurd cc
above shape.Set shape.Truth d e = absurd cc
above shape.Set shape.Text d e = absurd cc
above shape.Set shape.Day d e = absurd cc
above shape.Set shape.Set d e =
    subst (λ (c : Shape). IsBelow shape.Set c × IsBelow shape.Set c) (some_is e) (tt, tt)
above shape.Set (shape.Number q n) d e = absurd cc
above shape.Set (shape.Amount q n) d e = absurd cc
above shape.Set (shape.Position w z) d e = absurd cc
above shape.Set (shape.Inventory q w z) d e = absurd cc
above (shape.Number p m) shape.Truth d e = absurd cc
above (shape.Number p m) shape.Text d e = absurd cc
above (shape.Number p m) shape.Day d e = absurd cc
above (shape.Number p m) shape.Set d e = absurd cc
above (shape.Number p m) (shape.Number q n) d e = by (eqb p q) refl e
  where
    top : Shape
    top = shape.Number p (max m n)

    by : (b : Bool) → eqb p q ≡ b → cond b (Some top) None ≡ Some d
        → IsBelow (shape.Number p m) d × IsBelow (shape.Number q n) d
    by true is e =
        subst (λ (c : Shape). IsBelow (shape.Number p m) c
        × IsBelow (shape.Number q n) c) (some_is e)
        ((refl, omega arith), (sym (eqb-true p q is), omega arith))
    by false is e = absurd cc
above (shape.Number p m) (shape.Amount q n) d e = absurd cc
above (shape.Number p m) (shape.Position w z) d e = absurd cc
above (shape.Number p m) (shape.Inventory q w z) d e = absurd cc
above (shape.Amount p m) shape.Truth d e = absurd cc
above (shape.Amount p m) shape.Text d e = absurd cc
above (shape.Amount p m) shape.Day d e = absurd cc
above (shape.Amount p m) shape.Set d e = absurd cc
above (shape.Amount p m) (shape.Number q n) d e = absurd cc
above (shape.Amount p m) (shape.Amount q n) d e = by (eqb p q) refl e
  where
    top : Shape
    top = shape.Amount p (max m n)

    by : (b : Bool) → eqb p q ≡ b → cond b (Some top) None ≡ Some d
        → IsBelow (shape.Amount p m) d × IsBelow (shape.Amount q n) d
    by true is e =
        subst (λ (c : Shape). IsBelow (shape.Amount p m) c
        × IsBelow (shape.Amount q n) c) (some_is e)
        ((refl, omega arith), (sym (eqb-true p q is), omega arith))
    by false is e = absurd cc
above (shape.Amount p m) (shape.Position w z) d e = absurd cc
above (shape.Amount p m) (shape.Inventory q w z) d e = absurd cc
above (shape.Position u v) shape.Truth d e = absurd cc
above (shape.Position u v) shape.Text d e = absurd cc
above (shape.Position u v) shape.Day d e = absurd cc
above (shape.Position u v) shape.Set d e = absurd cc
above (shape.Position u v) (shape.Number q n) d e = absurd cc
above (shape.Position u v) (shape.Amount q n) d e = absurd cc
above (shape.Position u v) (shape.Position w z) d e =
    subst (λ (c : Shape). IsBelow (shape.Position u v) c
    × IsBelow (shape.Position w z) c) (some_is e)
    ((omega arith, omega arith), (omega arith, omega arith))
above (shape.Position u v) (shape.Inventory q w z) d e = absurd cc
above (shape.Inventory p u v) shape.Truth d e = absurd cc
above (shape.Inventory p u v) shape.Text d e = absurd cc
above (shape.Inventory p u v) shape.Day d e = absurd cc
above (shape.Inventory p u v) shape.Set d e = absurd cc
above (shape.Inventory p u v) (shape.Number q n) d e = absurd cc
above (shape.Inventory p u v) (shape.Amount q n) d e = absurd cc
above (shape.Inventory p u v) (shape.Position w z) d e = absurd cc
above (shape.Inventory p u v) (shape.Inventory q w z) d e = by (eqb p q) refl e
  where
    top : Shape
    top = shape.Inventory p (max u w) (max v z)

    by : (b : Bool) → eqb p q ≡ b → cond b (Some top) None ≡ Some d
        → IsBelow (shape.Inventory p u v) d × IsBelow (shape.Inventory q w z) d
    by true is e =
        subst (λ (c : Shape). IsBelow (shape.Inventory p u v) c × IsBelow (shape.Inventory q w z) c)
        (some_is e)
        ((refl, omega arith, omega arith), (sym (eqb-true p q is), omega arith, omega arith))
    by false is e = absurd cc

-- the least above both
abbrev Least : Shape → Shape → Shape → Type 0
Least s t d = (u : Shape) × (joined s t ≡ Some u) × IsBelow u d

abbrev OfOne : Shape → Shape → Type 0
OfOne s d = (t : Shape) → IsBelow t d → Least s t d

truth_least : OfOne shape.Truth shape.Truth
truth_least shape.Truth h = (shape.Truth, refl, tt)
truth_least shape.Text h = absurd h
truth_least shape.Day h = absurd h
truth_least shape.Set h = absurd h
truth_least (shape.Number p m) h = absurd h
truth_least (shape.Amount p m) h = absurd h
truth_least (shape.Position u v) h = absurd h
truth_least (shape.Inventory p u v) h = absurd h

text_least : OfOne shape.Text shape.Text
text_least shape.Truth h = absurd h
text_least shape.Text h = (shape.Text, refl, tt)
text_least shape.Day h = absurd h
text_least shape.Set h = absurd h
text_least (shape.Number p m) h = absurd h
text_least (shape.Amount p m) h = absurd h
text_least (shape.Position u v) h = absurd h
text_least (shape.Inventory p u v) h = absurd h

day_least : OfOne shape.Day shape.Day
day_least shape.Truth h = absurd h
day_least shape.Text h = absurd h
day_least shape.Day h = (shape.Day, refl, tt)
day_least shape.Set h = absurd h
day_least (shape.Number p m) h = absurd h
day_least (shape.Amount p m) h = absurd h
day_least (shape.Position u v) h = absurd h
day_least (shape.Inventory p u v) h = absurd h

set_least : OfOne shape.Set shape.Set
set_least shape.Truth h = absurd h
set_least shape.Text h = absurd h
set_least shape.Day h = absurd h
set_least shape.Set h = (shape.Set, refl, tt)
set_least (shape.Number p m) h = absurd h
set_least (shape.Amount p m) h = absurd h
set_least (shape.Position u v) h = absurd h
set_least (shape.Inventory p u v) h = absurd h

number_least : (p m n : ℕ) → m ≤ n → OfOne (shape.Number p m) (shape.Number p n)
number_least p m n low shape.Truth h = absurd h
number_least p m n low shape.Text h = absurd h
number_least p m n low shape.Day h = absurd h
number_least p m n low shape.Set h = absurd h
number_least p m n low (shape.Number q k) h = (
  shape.Number p (max m k),
  ap (λ (b : Bool). cond b (Some (shape.Number p (max m k))) None) (eq-eqb p q (sym h.0)),
  (refl, omega (arith, low, h.1)),
)
number_least p m n low (shape.Amount q k) h = absurd h
number_least p m n low (shape.Position a b) h = absurd h
number_least p m n low (shape.Inventory q a b) h = absurd h

amount_least : (p m n : ℕ) → m ≤ n → OfOne (shape.Amount p m) (shape.Amount p n)
amount_least p m n low shape.Truth h = absurd h
amount_least p m n low shape.Text h = absurd h
amount_least p m n low shape.Day h = absurd h
amount_least p m n low shape.Set h = absurd h
amount_least p m n low (shape.Number q k) h = absurd h
amount_least p m n low (shape.Amount q k) h = (
  shape.Amount p (max m k),
  ap (λ (b : Bool). cond b (Some (shape.Amount p (max m k))) None) (eq-eqb p q (sym h.0)),
  (refl, omega (arith, low, h.1)),
)
amount_least p m n low (shape.Position a b) h = absurd h
amount_least p m n low (shape.Inventory q a b) h = absurd h

position_least : (u v w z : ℕ) → u ≤ w → v ≤ z → OfOne (shape.Position u v) (shape.Position w z)
position_least u v w z low less shape.Truth h = absurd h
position_least u v w z low less shape.Text h = absurd h
position_least u v w z low less shape.Day h = absurd h
position_least u v w z low less shape.Set h = absurd h
position_least u v w z low less (shape.Number q k) h = absurd h
position_least u v w z low less (shape.Amount q k) h = absurd h
position_least u v w z low less (shape.Position a b) h = (
  shape.Position (max u a) (max v b),
  refl,
  (omega (arith, low, h.0), omega (arith, less, h.1)),
)
position_least u v w z low less (shape.Inventory q a b) h = absurd h

inventory_least : (p u v w z : ℕ) → u ≤ w → v ≤ z
    → OfOne (shape.Inventory p u v) (shape.Inventory p w z)
inventory_least p u v w z low less shape.Truth h = absurd h
inventory_least p u v w z low less shape.Text h = absurd h
inventory_least p u v w z low less shape.Day h = absurd h
inventory_least p u v w z low less shape.Set h = absurd h
inventory_least p u v w z low less (shape.Number q k) h = absurd h
inventory_least p u v w z low less (shape.Amount q k) h = absurd h
inventory_least p u v w z low less (shape.Position a b) h = absurd h
inventory_least p u v w z low less (shape.Inventory q a b) h = (
  shape.Inventory p (max u a) (max v b),
  ap (λ (c : Bool). cond c (Some (shape.Inventory p (max u a) (max v b))) None)
      (eq-eqb p q (sym h.0)),
  (refl, omega (arith, low, h.1), omega (arith, less, h.2)),
)

pub least : (s t d : Shape) → IsBelow s d → IsBelow t d → Least s t d
least s t d h =
    below_cases OfOne (record {
      truth = truth_least;
      text = text_least;
      day = day_least;
      set = set_least;
      number = number_least;
      amount = amount_least;
      position = position_least;
      inventory = inventory_least;
    }) s d h t
