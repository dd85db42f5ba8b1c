-- The texts of numbers and days.
use Rattle.std.specs.Prelude.{ℕ, ℤ, zero, suc, pos, negsuc, ◌+◌, ◌-◌, ◌/◌, ◌%◌, ◌^◌, ◌==◌, List, []}
use Rattle.std.specs.Prelude.{◌∷◌, ◌++◌, length, replicate, if◌then◌else◌}
use Rattle.std.specs.Fmt.{decimal}
use Rattle.bean_base.specs.Character.{dash, point, space}
use Rattle.bean_base.specs.declared.days.Day.{Day}
use Rattle.std.specs.Int.RustNames.{unsigned_abs}

-- the last digits of a number, so many
abbrev pub digits_of : ℕ → ℕ → List ℕ
digits_of zero n = []
digits_of (suc places) n = digits_of places (n / 10) ++ (48 + n % 10) ∷ []

-- decimals without the zeros at their end
abbrev pub exact_decimals : ℕ → ℕ → List ℕ
exact_decimals zero n = []
exact_decimals (suc places) n = if n % 10 == 0 then exact_decimals places (n / 10) else
    digits_of (suc places) n

abbrev pub zeros : ℕ → List ℕ
zeros count = replicate count 48

-- a point before decimals, where there are some
abbrev pub behind_point : List ℕ → List ℕ
behind_point [] = []
behind_point (d ∷ ds) = point ∷ d ∷ ds

-- the fewest decimals that are exact, but at least so many
abbrev pub decimals_text : ℕ → ℕ → ℕ → List ℕ
decimals_text places n least =
    let exact = exact_decimals places n in behind_point (exact ++ zeros (least - length exact))

-- a whole part, and decimals with zeros behind them up to the least count
abbrev pub parts_text : ℕ → ℕ → ℕ → ℕ → List ℕ
parts_text whole shown digits least =
    decimal whole ++ behind_point (digits_of shown digits ++ zeros (least - shown))

-- the magnitude n * 10^-places
abbrev pub magnitude_text : ℕ → ℕ → ℕ → List ℕ
magnitude_text n places least =
    decimal (n / 10 ^ places) ++ decimals_text places (n % 10 ^ places) least

-- count * 10^-places
abbrev pub number_text : ℤ → ℕ → ℕ → List ℕ
number_text (pos n) places least = magnitude_text n places least
number_text (negsuc n) places least = dash ∷ magnitude_text (suc n) places least

-- a text at the right of a column that is so wide, with spaces before it
abbrev pub right_of : ℕ → List ℕ → List ℕ
right_of width text = replicate (width - length text) space ++ text

-- YYYY-MM-DD
abbrev pub day_text : Day → List ℕ
day_text d =
    digits_of 4 (unsigned_abs d.date.year) ++ dash ∷ digits_of 2 d.date.month ++ dash
    ∷ digits_of 2 d.date.day
