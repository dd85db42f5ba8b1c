-- What instructions name in the pool of their program: none where no entry of that kind stands
-- there.
use Rattle.std.specs.Prelude.{ℕ, List, map, Option, Some, None, slice_get, option_map}
use Rattle.std.specs.Prelude.{option_and_then, if◌then◌else◌}
use Rattle.query_values.specs.Choice.{text_choice, number_choice, day_choice}
use Rattle.query_values.specs.Unary as operation
use Rattle.query_values.specs.declared.value.Value.{Value}
use Rattle.query_values.specs.declared.value.Value.TheVariants as value
use Rattle.query_code.specs.InstructionForm.{at_least_one}
use Rattle.query_code.specs.declared.instruction.Unary.{Unary}
use Rattle.query_code.specs.declared.instruction.Unary.TheVariants as unary
use Rattle.query_code.specs.declared.program.Constant.{Constant}
use Rattle.query_code.specs.declared.program.Constant.TheVariants.{Text, Number, Day, Pattern}
use Rattle.query_code.specs.declared.program.Constant.TheVariants.{Texts, Numbers, Days}

-- the value that an entry is
abbrev pub value_in : Constant → Option Value
value_in (Text t) = Some (value.Text t)
value_in (Number n) = Some (value.Number n.places n.count)
value_in (Day d) = Some (value.Day d)
value_in c = None

-- a key of metadata
abbrev pub key_in : Constant → Option (List ℕ)
key_in (Text t) = Some t
key_in c = None

abbrev pub pattern_in : Constant → Option (List ℕ)
pattern_in (Pattern t) = Some t
pattern_in c = None

-- the members of a list
abbrev pub members_in : Constant → Option (List Value)
members_in (Texts ts) = Some (map text_choice ts)
members_in (Numbers ns) = Some (map (number_choice ns.places) ns.counts)
members_in (Days ds) = Some (map day_choice ds)
members_in c = None

abbrev pub value_at : List Constant → ℕ → Option Value
value_at pool i = option_and_then value_in (slice_get pool i)

abbrev pub key_at : List Constant → ℕ → Option (List ℕ)
key_at pool i = option_and_then key_in (slice_get pool i)

abbrev pub pattern_at : List Constant → ℕ → Option (List ℕ)
pattern_at pool i = option_and_then pattern_in (slice_get pool i)

abbrev pub members_at : List Constant → ℕ → Option (List Value)
members_at pool i = option_and_then members_in (slice_get pool i)

-- the operation on one value that an instruction asks for, with its constant
abbrev pub operation_of : List Constant → Unary → Option operation.Unary
operation_of pool (unary.Align places) = Some (operation.Align places)
operation_of pool unary.Neg = Some operation.Neg
operation_of pool unary.Abs = Some operation.Abs
operation_of pool unary.Not = Some operation.Not
operation_of pool unary.IsNull = Some operation.IsNull
operation_of pool (unary.Match i) = option_map operation.Match (pattern_at pool i)
operation_of pool (unary.MatchAny i) = option_map operation.MatchAny (pattern_at pool i)
operation_of pool (unary.InList i) = option_map operation.InList (members_at pool i)
operation_of pool unary.Year = Some operation.Year
operation_of pool unary.Month = Some operation.Month
operation_of pool unary.Day = Some operation.Day
operation_of pool (unary.Root n) = if at_least_one n then Some (operation.Root n) else None
operation_of pool unary.Parent = Some operation.Parent
operation_of pool unary.Leaf = Some operation.Leaf
operation_of pool unary.Length = Some operation.Length
operation_of pool unary.Units = Some operation.Units
operation_of pool unary.Cost = Some operation.Cost
operation_of pool unary.Number = Some operation.Number
operation_of pool unary.Currency = Some operation.Currency
operation_of pool unary.RootRank = Some operation.RootRank
