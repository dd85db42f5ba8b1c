-- What values of a shape are: null, or of its kind, decimals and bounds.
use Rattle.std.proofs.Common.{◌≡◌, Bool, ℕ, ◌≤◌, ℤ, List, length, sym, subst}
use Rattle.std.specs.Int.RustNames.{unsigned_abs}
use Rattle.std.specs.List.{AllByRecursion}
use Rattle.bean_base.specs.declared.days.Day as day
use Rattle.bean_lots.specs.declared.lot.Key.{Key}
use Rattle.query_holdings.specs.Total.{cost_currency}
use Rattle.query_bags.specs.declared.bag.Bag.{Bag}
use Rattle.query_values.specs.declared.value.Value.{Value}
use Rattle.query_values.specs.declared.value.Value.TheVariants as value
use Rattle.query_rows.specs.Mass.{units_mass, value_mass, value_of}
use Rattle.query_rows.specs.Shape.{LiesIn, IsShort}
use Rattle.query_rows.specs.declared.shape.Shape.TheVariants as shape
use Rattle.limits.specs.declared.counts.TheConstants.{LARGEST_TEXT}

pub truth_cases : (P : Value → Type 0) → P value.Null
    → ((b : Bool) → P (value.Truth b))
    → (x : Value) → LiesIn x shape.Truth → P x
truth_cases P null one value.Null h = null
truth_cases P null one (value.Truth b) h = one b
truth_cases P null one (value.Text t) h = absurd h
truth_cases P null one (value.Day d) h = absurd h
truth_cases P null one (value.Set ts) h = absurd h
truth_cases P null one (value.Number p n) h = absurd h
truth_cases P null one (value.Amount p c n) h = absurd h
truth_cases P null one (value.Position k n) h = absurd h
truth_cases P null one (value.Inventory b) h = absurd h

pub text_cases : (P : Value → Type 0) → P value.Null
    → ((t : List ℕ) → IsShort t → P (value.Text t))
    → (x : Value) → LiesIn x shape.Text → P x
text_cases P null one value.Null h = null
text_cases P null one (value.Truth b) h = absurd h
text_cases P null one (value.Text t) h = one t h
text_cases P null one (value.Day d) h = absurd h
text_cases P null one (value.Set ts) h = absurd h
text_cases P null one (value.Number p n) h = absurd h
text_cases P null one (value.Amount p c n) h = absurd h
text_cases P null one (value.Position k n) h = absurd h
text_cases P null one (value.Inventory b) h = absurd h

pub day_cases : (P : Value → Type 0) → P value.Null
    → ((d : day.Day) → P (value.Day d))
    → (x : Value) → LiesIn x shape.Day → P x
day_cases P null one value.Null h = null
day_cases P null one (value.Truth b) h = absurd h
day_cases P null one (value.Text t) h = absurd h
day_cases P null one (value.Day d) h = one d
day_cases P null one (value.Set ts) h = absurd h
day_cases P null one (value.Number p n) h = absurd h
day_cases P null one (value.Amount p c n) h = absurd h
day_cases P null one (value.Position k n) h = absurd h
day_cases P null one (value.Inventory b) h = absurd h

pub set_cases : (P : Value → Type 0) → P value.Null
    → ((ts : List (List ℕ)) → length ts ≤ LARGEST_TEXT → AllByRecursion IsShort ts → P (value.Set ts))
    → (x : Value) → LiesIn x shape.Set → P x
set_cases P null one value.Null h = null
set_cases P null one (value.Truth b) h = absurd h
set_cases P null one (value.Text t) h = absurd h
set_cases P null one (value.Day d) h = absurd h
set_cases P null one (value.Set ts) h = one ts h.0 h.1
set_cases P null one (value.Number p n) h = absurd h
set_cases P null one (value.Amount p c n) h = absurd h
set_cases P null one (value.Position k n) h = absurd h
set_cases P null one (value.Inventory b) h = absurd h

pub number_cases : (P : Value → Type 0) (q m : ℕ) → P value.Null
    → ((n : ℤ) → unsigned_abs n ≤ m → P (value.Number q n))
    → (x : Value) → LiesIn x (shape.Number q m) → P x
number_cases P q m null one value.Null h = null
number_cases P q m null one (value.Truth b) h = absurd h
number_cases P q m null one (value.Text t) h = absurd h
number_cases P q m null one (value.Day d) h = absurd h
number_cases P q m null one (value.Set ts) h = absurd h
number_cases P q m null one (value.Number p n) h =
    subst (λ r. P (value.Number r n)) (sym h.0) (one n h.1)
number_cases P q m null one (value.Amount p c n) h = absurd h
number_cases P q m null one (value.Position k n) h = absurd h
number_cases P q m null one (value.Inventory b) h = absurd h

pub amount_cases : (P : Value → Type 0) (q m : ℕ) → P value.Null
    → ((n : ℤ) (c : List ℕ) → unsigned_abs n ≤ m → IsShort c → P (value.Amount q c n))
    → (x : Value) → LiesIn x (shape.Amount q m) → P x
amount_cases P q m null one value.Null h = null
amount_cases P q m null one (value.Truth b) h = absurd h
amount_cases P q m null one (value.Text t) h = absurd h
amount_cases P q m null one (value.Day d) h = absurd h
amount_cases P q m null one (value.Set ts) h = absurd h
amount_cases P q m null one (value.Number p n) h = absurd h
amount_cases P q m null one (value.Amount p c n) h =
    subst (λ r. P (value.Amount r c n)) (sym h.0) (one n c h.1 h.2)
amount_cases P q m null one (value.Position k n) h = absurd h
amount_cases P q m null one (value.Inventory b) h = absurd h

pub position_cases : (P : Value → Type 0) (u v : ℕ) → P value.Null
    → ((k : Key) (n : ℤ) → unsigned_abs n ≤ u → value_of k.lot n ≤ v
    → IsShort k.currency → IsShort (cost_currency k) → P (value.Position k n))
    → (x : Value) → LiesIn x (shape.Position u v) → P x
position_cases P u v null one value.Null h = null
position_cases P u v null one (value.Truth b) h = absurd h
position_cases P u v null one (value.Text t) h = absurd h
position_cases P u v null one (value.Day d) h = absurd h
position_cases P u v null one (value.Set ts) h = absurd h
position_cases P u v null one (value.Number p n) h = absurd h
position_cases P u v null one (value.Amount p c n) h = absurd h
position_cases P u v null one (value.Position k n) h = one k n h.0 h.1 h.2 h.3
position_cases P u v null one (value.Inventory b) h = absurd h

pub inventory_cases : (P : Value → Type 0) (q u v : ℕ) → P value.Null
    → ((b : Bag) → b.places ≡ q → units_mass b.held ≤ u → value_mass b.held ≤ v
    → P (value.Inventory b))
    → (x : Value) → LiesIn x (shape.Inventory q u v) → P x
inventory_cases P q u v null one value.Null h = null
inventory_cases P q u v null one (value.Truth b) h = absurd h
inventory_cases P q u v null one (value.Text t) h = absurd h
inventory_cases P q u v null one (value.Day d) h = absurd h
inventory_cases P q u v null one (value.Set ts) h = absurd h
inventory_cases P q u v null one (value.Number p n) h = absurd h
inventory_cases P q u v null one (value.Amount p c n) h = absurd h
inventory_cases P q u v null one (value.Position k n) h = absurd h
inventory_cases P q u v null one (value.Inventory b) h = one b h.0 h.1 h.2
