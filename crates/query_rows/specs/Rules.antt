-- Which shape an operation gives: none where an operand is of a kind or of decimals that it does
-- not take, and none where its value might be too wide to be held.
use Rattle.std.specs.Prelude.{ℕ, ◌+◌, ◌-◌, ◌*◌, ◌^◌, ◌==◌, ◌&&◌, Bool, true, false, max, nat_le}
use Rattle.std.specs.Prelude.{List}
use Rattle.std.specs.Prelude.{Option, Some, None, Result, Ok, Err, if◌then◌else◌}
use Rattle.std.specs.List.{list_all}
use Rattle.limits.specs.declared.counts.TheConstants.{LARGEST_TEXT}
use Rattle.query_values.specs.Unary as unary
use Rattle.query_values.specs.declared.operation.Aggregate.{Aggregate}
use Rattle.query_values.specs.declared.operation.Aggregate.TheVariants as aggregate
use Rattle.query_values.specs.declared.operation.Binary.{Binary}
use Rattle.query_values.specs.declared.operation.Binary.TheVariants as binary
use Rattle.query_values.specs.declared.value.Value.{Value}
use Rattle.query_values.specs.declared.value.Value.TheVariants as value
use Rattle.query_rows.specs.Shape.{fitting}
use Rattle.query_rows.specs.declared.shape.Misfit.{Misfit}
use Rattle.query_rows.specs.declared.shape.Misfit.TheVariants.{Kind}
use Rattle.query_rows.specs.declared.shape.Shape.{Shape}
use Rattle.query_rows.specs.declared.shape.Shape.TheVariants.{Truth, Text, Day, Set, Number}
use Rattle.query_rows.specs.declared.shape.Shape.TheVariants.{Amount, Position, Inventory}

abbrev pub Ruled : Type 0
Ruled = Result Shape Misfit

-- a whole number of at most so many
abbrev pub whole : ℕ → Shape
whole most = Number 0 most

-- ---- of one operand

-- what is given of a truth value, of a text, of a set, of a day

abbrev pub of_truth : Shape → Shape → Ruled
of_truth given Truth = Ok given
of_truth given s = Err Kind

abbrev pub of_text : Shape → Shape → Ruled
of_text given Text = Ok given
of_text given s = Err Kind

abbrev pub of_set : Shape → Shape → Ruled
of_set given Set = Ok given
of_set given s = Err Kind

abbrev pub of_day : Shape → Shape → Ruled
of_day given Day = Ok given
of_day given s = Err Kind

abbrev pub aligned : ℕ → Shape → Ruled
aligned q (Number p m) = if nat_le p q then fitting (Number q (m * 10 ^ (q - p))) else Err Kind
aligned q s = Err Kind

abbrev pub negated : Shape → Ruled
negated (Number p m) = fitting (Number p m)
negated (Amount p m) = fitting (Amount p m)
negated (Position u v) = fitting (Position u v)
negated (Inventory p u v) = fitting (Inventory p u v)
negated s = Err Kind

abbrev pub magnitude_of : Shape → Ruled
magnitude_of (Number p m) = fitting (Number p m)
magnitude_of s = Err Kind

-- a member of a list is of a kind and decimals
abbrev pub is_like : Shape → Value → Bool
is_like Text (value.Text t) = true
is_like Day (value.Day d) = true
is_like (Number p m) (value.Number q n) = p == q
is_like s x = false

-- a kind that has an order
abbrev pub is_ranked : Shape → Bool
is_ranked Text = true
is_ranked Day = true
is_ranked (Number p m) = true
is_ranked s = false

abbrev pub among : List Value → Shape → Ruled
among ys s = if is_ranked s && list_all (is_like s) ys then Ok Truth else Err Kind

abbrev pub length_of : Shape → Ruled
length_of Text = Ok (whole LARGEST_TEXT)
length_of Set = Ok (whole LARGEST_TEXT)
length_of s = Err Kind

abbrev pub units_of : Shape → Ruled
units_of (Position u v) = fitting (Amount 8 u)
units_of (Inventory p u v) = fitting (Inventory p u 0)
units_of s = Err Kind

-- units without a lot are kept, with 8 decimals more
abbrev pub cost_of : Shape → Ruled
cost_of (Position u v) = fitting (Amount 16 (max v (u * 10 ^ 8)))
cost_of (Inventory p u v) = fitting (Inventory (p + 8) (v + u * 10 ^ 8) 0)
cost_of s = Err Kind

abbrev pub number_of : Shape → Ruled
number_of (Amount p m) = fitting (Number p m)
number_of (Position u v) = fitting (Number 8 u)
number_of s = Err Kind

abbrev pub currency_of : Shape → Ruled
currency_of (Amount p m) = Ok Text
currency_of (Position u v) = Ok Text
currency_of s = Err Kind

abbrev pub unary_shape : unary.Unary → Shape → Ruled
unary_shape (unary.Align places) s = aligned places s
unary_shape unary.Neg s = negated s
unary_shape unary.Abs s = magnitude_of s
unary_shape unary.Not s = of_truth Truth s
unary_shape unary.IsNull s = Ok Truth
unary_shape (unary.Match pattern) s = of_text Truth s
unary_shape (unary.MatchAny pattern) s = of_set Truth s
unary_shape (unary.InList ys) s = among ys s
unary_shape unary.Year s = of_day (whole 9999) s
unary_shape unary.Month s = of_day (whole 12) s
unary_shape unary.Day s = of_day (whole 31) s
unary_shape (unary.Root n) s = of_text Text s
unary_shape unary.Parent s = of_text Text s
unary_shape unary.Leaf s = of_text Text s
unary_shape unary.Length s = length_of s
unary_shape unary.Units s = units_of s
unary_shape unary.Cost s = cost_of s
unary_shape unary.Number s = number_of s
unary_shape unary.Currency s = currency_of s
unary_shape unary.RootRank s = of_text (whole 5) s

-- ---- of two operands

abbrev pub sum_of : Shape → Shape → Ruled
sum_of (Number p m) (Number q n) = if p == q then fitting (Number p (m + n)) else Err Kind
sum_of s t = Err Kind

abbrev pub product_of : Shape → Shape → Ruled
product_of (Number p m) (Number q n) = fitting (Number (p + q) (m * n))
product_of s t = Err Kind

-- of a kind that has an order, and of the same decimals
abbrev pub ordered : Shape → Shape → Ruled
ordered Text Text = Ok Truth
ordered Day Day = Ok Truth
ordered (Number p m) (Number q n) = if p == q then Ok Truth else Err Kind
ordered s t = Err Kind

-- truth values too
abbrev pub compared : Shape → Shape → Ruled
compared Truth Truth = Ok Truth
compared s t = ordered s t

abbrev pub member_of : Shape → Shape → Ruled
member_of Text Set = Ok Truth
member_of s t = Err Kind

abbrev pub binary_shape : Binary → Shape → Shape → Ruled
binary_shape binary.Add s t = sum_of s t
binary_shape binary.Sub s t = sum_of s t
binary_shape binary.Mul s t = product_of s t
binary_shape binary.Equal s t = compared s t
binary_shape binary.NotEqual s t = compared s t
binary_shape binary.Less s t = ordered s t
binary_shape binary.AtMost s t = ordered s t
binary_shape binary.Greater s t = ordered s t
binary_shape binary.AtLeast s t = ordered s t
binary_shape binary.InSet s t = member_of s t

-- ---- of at most n values

abbrev pub summed : ℕ → ℕ → Shape → Ruled
summed n q (Number p m) = if p == q then fitting (Number p (n * m)) else Err Kind
summed n q s = Err Kind

-- amounts of so many decimals, or positions where these are 8
abbrev pub gathered : ℕ → ℕ → Shape → Ruled
gathered n q (Amount p m) = if p == q then fitting (Inventory p (n * m) 0) else Err Kind
gathered n q (Position u v) =
    if 8 == q then fitting (Inventory 8 (n * u) (n * v)) else Err Kind
gathered n q s = Err Kind

-- what has an order
abbrev pub ranked : Shape → Ruled
ranked s = if is_ranked s then fitting s else Err Kind

-- over values of a shape; rows are counted without any
abbrev pub aggregate_shape : ℕ → Aggregate → Option Shape → Ruled
aggregate_shape n aggregate.CountRows None = fitting (whole n)
aggregate_shape n aggregate.Count (Some s) = fitting (whole n)
aggregate_shape n (aggregate.Sum places) (Some s) = summed n places s
aggregate_shape n (aggregate.SumInventory places) (Some s) = gathered n places s
aggregate_shape n aggregate.First (Some s) = fitting s
aggregate_shape n aggregate.Last (Some s) = fitting s
aggregate_shape n aggregate.Min (Some s) = ranked s
aggregate_shape n aggregate.Max (Some s) = ranked s
aggregate_shape n a s = Err Kind
