-- What instructions do with shapes, in each of the three sections of a program: none where what
-- they name isn't there, or where they don't take their operands.
use Rattle.std.specs.Prelude.{ℕ, Bool, true, false, List, [], Option, Some, None, Ok, Err}
use Rattle.std.specs.Prelude.{slice_get, option_map, option_and_then, if◌then◌else◌}
use Rattle.std.specs.Int.RustNames.{unsigned_abs}
use Rattle.limits.specs.declared.bounds.Bounds.{Bounds}
use Rattle.query_values.specs.declared.operation.Binary.{Binary}
use Rattle.query_rows.specs.Rules.{Ruled, unary_shape, binary_shape}
use Rattle.query_rows.specs.Shape.{fitting}
use Rattle.query_rows.specs.declared.shape.Shape.{Shape}
use Rattle.query_rows.specs.declared.shape.Shape.TheVariants as shape
use Rattle.query_terms.specs.Column.{is_in, numbered}
use Rattle.query_rows.specs.ColumnShape.{column_shape}
use Rattle.query_terms.specs.declared.column.Column.{Column}
use Rattle.query_terms.specs.declared.column.Column.TheVariants.{Balance}
use Rattle.query_code.specs.declared.instruction.Push.{Push}
use Rattle.query_code.specs.declared.instruction.Push.TheVariants as push
use Rattle.query_code.specs.declared.instruction.Unary.{Unary}
use Rattle.query_code.specs.declared.program.Constant.{Constant}
use Rattle.query_code.specs.declared.program.Constant.TheVariants as constant
use Rattle.query_code.specs.declared.program.Mode.{Mode}
use Rattle.query_code.specs.declared.program.Mode.TheVariants.{Plain, Grouped}
use Rattle.query_code.specs.declared.program.Parts.{Parts}
use Rattle.plain_machine.specs.Pool.{key_at, operation_of}
use Rattle.plain_machine.specs.SectionRun.{Acts}

-- What a section may load: the columns and the metadata of a posting, told by the bounds of its
-- ledger; the running inventory; a group's keys and its aggregates.
pub record Loads : Type 0 where
  pub posting : Option Bounds
  pub balance : Option Shape
  pub keys : List Shape
  pub aggregates : List Shape

-- the shape that a rule gives, if it gives one
abbrev pub given : Ruled → Option Shape
given (Ok s) = Some s
given (Err e) = None

-- a text, a number or a day of the pool; a number has its own count as the most
abbrev pub shape_in : Constant → Option Shape
shape_in (constant.Text t) = Some shape.Text
shape_in (constant.Number n) = Some (shape.Number n.places (unsigned_abs n.count))
shape_in (constant.Day d) = Some shape.Day
shape_in c = None

abbrev pub shape_at : List Constant → ℕ → Option Shape
shape_at pool i = option_and_then shape_in (slice_get pool i)

-- none where the schema has no such column
abbrev pub shape_by : Column → Bounds → Option Shape
shape_by c b = if is_in b.schema c then Some (column_shape b c) else None

abbrev pub shape_of : Loads → Column → Option Shape
shape_of l Balance = l.balance
shape_of l c = option_and_then (shape_by c) l.posting

-- the shape of the column that has the number
abbrev pub column_at : Loads → ℕ → Option Shape
column_at l n = option_and_then (shape_of l) (numbered n)

-- a text of a posting's metadata, under a key of the pool
abbrev pub text_at : Loads → Option (List ℕ) → Option Shape
text_at l key = option_and_then (λ k. option_map (λ b. shape.Text) l.posting) key

abbrev pub loaded : List Constant → Loads → Push → Option Shape
loaded pool l push.True = Some shape.Truth
loaded pool l push.False = Some shape.Truth
loaded pool l (push.Const i) = shape_at pool i
loaded pool l (push.LoadColumn c) = column_at l c
loaded pool l (push.LoadKey k) = slice_get l.keys k
loaded pool l (push.LoadAggregate a) = slice_get l.aggregates a
loaded pool l (push.Meta i) = text_at l (key_at pool i)
loaded pool l (push.EntryMeta i) = text_at l (key_at pool i)
loaded pool l (push.AnyMeta i) = text_at l (key_at pool i)

-- the rules of operations; a constant, too, is only loaded where it can be held

abbrev pub push_of : List Constant → Loads → Push → Option Shape
push_of pool l op = option_and_then (λ s. given (fitting s)) (loaded pool l op)

abbrev pub unary_of : List Constant → Unary → Shape → Option Shape
unary_of pool op s = option_and_then (λ o. given (unary_shape o s)) (operation_of pool op)

abbrev pub binary_of : Binary → Shape → Shape → Option Shape
binary_of op s t = given (binary_shape op s t)

abbrev pub is_truth : Shape → Bool
is_truth shape.Truth = true
is_truth s = false

-- what instructions do with shapes
abbrev pub shape_acts : List Constant → Loads → Acts Shape
shape_acts pool l = record {
  push = push_of pool l;
  unary = unary_of pool;
  binary = binary_of;
  is_test = is_truth;
}

-- ---- the three sections

-- the running inventory is no column of a filter
abbrev pub filter_loads : Bounds → Loads
filter_loads b = record { posting = Some b; balance = None; keys = []; aggregates = [] }

-- and none where postings are grouped
abbrev pub balance_in : Mode → Bounds → Option Shape
balance_in Plain b = Some (column_shape b Balance)
balance_in Grouped b = None

abbrev pub row_loads : Mode → Bounds → Loads
row_loads mode b =
    record { posting = Some b; balance = balance_in mode b; keys = []; aggregates = [] }

-- behind the last posting there are no columns and no metadata
abbrev pub last_loads : List Shape → List Shape → Loads
last_loads keys aggregates =
    record { posting = None; balance = None; keys = keys; aggregates = aggregates }

abbrev pub filter_acts : Parts → Acts Shape
filter_acts p = shape_acts p.code.pool (filter_loads p.bounds)

abbrev pub row_acts : Parts → Acts Shape
row_acts p = shape_acts p.code.pool (row_loads p.mode p.bounds)

abbrev pub last_acts : Parts → List Shape → List Shape → Acts Shape
last_acts p keys aggregates = shape_acts p.code.pool (last_loads keys aggregates)
