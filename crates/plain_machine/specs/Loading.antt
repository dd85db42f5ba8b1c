-- What the instructions of a section load, and what operations give there.
use Rattle.std.specs.Prelude.{ℕ, true, false, List, Option, Some, slice_get, option_map}
use Rattle.std.specs.Prelude.{option_and_then}
use Rattle.limits.specs.declared.bounds.Version.{Version}
use Rattle.query_terms.specs.Column.{numbered_in}
use Rattle.query_terms.specs.declared.column.Column.{Column}
use Rattle.query_terms.specs.declared.column.Column.TheVariants.{Balance}
use Rattle.query_values.specs.Held.{checked}
use Rattle.query_values.specs.Operand.{may_unary, may_binary, is_truth}
use Rattle.query_values.specs.Operation.{unary_value, binary_value}
use Rattle.query_values.specs.declared.operation.Binary.{Binary}
use Rattle.query_values.specs.declared.value.Value.{Value}
use Rattle.query_values.specs.declared.value.Value.TheVariants.{Truth}
use Rattle.query_code.specs.declared.instruction.Push.{Push}
use Rattle.query_code.specs.declared.instruction.Push.TheVariants as push
use Rattle.query_code.specs.declared.instruction.Unary.{Unary}
use Rattle.query_code.specs.declared.program.Constant.{Constant}
use Rattle.plain_machine.specs.Pool.{value_at, key_at, operation_of}
use Rattle.query_rows.specs.Row.{Row, posting_text, transaction_text, any_text}
use Rattle.plain_machine.specs.SectionRun.{Acts}

-- a posting's row, of which the columns of a schema are known, the running inventory, a group's keys and its aggregates, where they may be read
pub record Loads : Type 0 where
  pub schema : Version
  pub row : Option Row
  pub balance : Option Value
  pub keys : List Value
  pub aggregates : List Value

-- the cell of the row; of one column it is the running inventory
abbrev pub cell_in : Loads → Column → Option Value
cell_in l Balance = l.balance
cell_in l c = option_map (λ (r : Row). r.cell c) l.row

-- none where no column of the schema has the number
abbrev pub column_at : Loads → ℕ → Option Value
column_at l n = option_and_then (cell_in l) (numbered_in l.schema n)

-- a text of the row's metadata, under a key of the pool
abbrev pub text_at : Loads → (List ℕ → Row → Value) → Option (List ℕ) → Option Value
text_at l text key = option_and_then (λ k. option_map (text k) l.row) key

abbrev pub loaded : List Constant → Loads → Push → Option Value
loaded pool l push.True = Some (Truth true)
loaded pool l push.False = Some (Truth false)
loaded pool l (push.Const i) = value_at pool i
loaded pool l (push.LoadColumn c) = column_at l c
loaded pool l (push.LoadKey k) = slice_get l.keys k
loaded pool l (push.LoadAggregate a) = slice_get l.aggregates a
loaded pool l (push.Meta i) = text_at l posting_text (key_at pool i)
loaded pool l (push.EntryMeta i) = text_at l transaction_text (key_at pool i)
loaded pool l (push.AnyMeta i) = text_at l any_text (key_at pool i)

-- an operation's value where it may be applied, and what can be held
abbrev pub push_of : List Constant → Loads → Push → Option Value
push_of pool l op = option_and_then (checked true) (loaded pool l op)

abbrev pub unary_of : List Constant → Unary → Value → Option Value
unary_of pool op x =
    option_and_then (λ o. checked (may_unary o x) (unary_value o x)) (operation_of pool op)

abbrev pub binary_of : Binary → Value → Value → Option Value
binary_of op x y = checked (may_binary op x y) (binary_value op x y)

-- what instructions do with values
abbrev pub value_acts : List Constant → Loads → Acts Value
value_acts pool l = record {
  push = push_of pool l;
  unary = unary_of pool;
  binary = binary_of;
  is_test = is_truth;
}
