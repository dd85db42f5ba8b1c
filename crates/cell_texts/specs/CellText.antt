-- The texts of cells.
use Rattle.std.specs.Prelude.{ℕ, ℤ, Bool, true, false, Option, Some, None, List, [], ◌∷◌, ◌++◌, map}
use Rattle.std.specs.Prelude.{chars, codes, encode_utf8, if◌then◌else◌}
use Rattle.std.specs.Char.{is_control}
use Rattle.std.specs.List.{flat_map}
use Rattle.std.specs.Option.{is_none}
use Rattle.theory.specs.Joined.{joined}
use Rattle.bean_base.specs.Character.{comma, space}
use Rattle.bean_lots.specs.declared.lot.Key.{Key}
use Rattle.bean_lots.specs.declared.lot.Lot.{Lot}
use Rattle.bean_lots.specs.declared.lot.Position.{Position as Entry}
use Rattle.query_holdings.specs.Entries.{in_order}
use Rattle.query_bags.specs.declared.bag.Bag.{Bag}
use Rattle.query_values.specs.declared.value.Value.{Value}
use Rattle.query_values.specs.declared.value.Value.TheVariants.{Null, Truth, Number, Text, Day, Set}
use Rattle.query_values.specs.declared.value.Value.TheVariants.{Amount, Position, Inventory}
use Rattle.number_texts.specs.Digits.{number_text, day_text}

-- numbers stand at the right of their columns
abbrev pub is_number : Value → Bool
is_number (Number p n) = true
is_number _ = false

-- whether it is a text or a day, as most cells at the left of their columns are
abbrev pub is_text_or_day : Value → Bool
is_text_or_day (Text t) = true
is_text_or_day (Day d) = true
is_text_or_day _ = false

-- a control character becomes a space
abbrev pub shown_character : ℕ → ℕ
shown_character c = if is_control c then space else c

abbrev pub clean_text : List ℕ → List ℕ
clean_text bs = flat_map (λ c. encode_utf8 (shown_character c)) (chars bs)

abbrev pub truth_text : Bool → List ℕ
truth_text b = if b then codes "TRUE" else codes "FALSE"

abbrev pub between_members : List ℕ
between_members = comma ∷ []

abbrev pub set_text : List (List ℕ) → List ℕ
set_text texts = joined between_members (map clean_text texts)

-- a number with at least its currency's display decimals, and the currency
abbrev pub units_text : (List ℕ → ℕ) → ℤ → ℕ → List ℕ → List ℕ
units_text display count places currency =
    number_text count places (display currency) ++ space ∷ currency

-- a label between quotes, behind a comma
abbrev pub label_text : Option (List ℕ) → List ℕ
label_text None = []
label_text (Some label) = codes ", \"" ++ clean_text label ++ codes "\""

-- what units cost, when they were bought, and under which label
abbrev pub lot_text : (List ℕ → ℕ) → Lot → List ℕ
lot_text display lot =
    codes " {" ++ units_text display lot.cost.count 8 lot.cost.currency ++ codes ", "
    ++ day_text lot.day
    ++ label_text lot.label ++ codes "}"

-- units, and the lot that they are held as
abbrev pub held_text : (List ℕ → ℕ) → List ℕ → Option Lot → List ℕ
held_text display units None = units
held_text display units (Some lot) = units ++ lot_text display lot

-- units of a key's currency, and its lot
abbrev pub entry_text : (List ℕ → ℕ) → ℕ → Key → ℤ → List ℕ
entry_text display places key count =
    held_text display (units_text display count places key.currency) key.lot

-- the counts of positions and costs are of 10^-8
abbrev pub position_text : (List ℕ → ℕ) → Key → ℤ → List ℕ
position_text display key count = entry_text display 8 key count

abbrev pub between_entries : List ℕ
between_entries = codes ", "

abbrev pub text_of_entry : (List ℕ → ℕ) → ℕ → Entry → List ℕ
text_of_entry display places entry = entry_text display places entry.key entry.count

abbrev pub entries_text : (List ℕ → ℕ) → ℕ → List Entry → List ℕ
entries_text display places entries =
    joined between_entries (map (text_of_entry display places) entries)

-- the entries of an inventory in the order of their keys, whatever the order in which they came
abbrev pub bag_text : (List ℕ → ℕ) → Bag → List ℕ
bag_text display bag = entries_text display bag.places (in_order bag.held)

-- held without a lot
abbrev pub is_plain : Entry → Bool
is_plain entry = is_none entry.key.lot

-- a number has the fewest decimals that are exact, and amounts, units and costs at least those that
-- their currency shows
abbrev pub cell_text : (List ℕ → ℕ) → Value → List ℕ
cell_text display Null = []
cell_text display (Truth b) = truth_text b
cell_text display (Number p n) = number_text n p 0
cell_text display (Text t) = clean_text t
cell_text display (Day d) = day_text d
cell_text display (Set texts) = set_text texts
cell_text display (Amount p currency n) = units_text display n p currency
cell_text display (Position key n) = position_text display key n
cell_text display (Inventory bag) = bag_text display bag
