-- What instructions name: what they load, and entries of the pool.
use Rattle.std.specs.Prelude.{Bool, true, false, List, [], ◌∷◌, Option, Some, None, slice_get, ⊤}
use Rattle.std.specs.Prelude.{option_and_then}
use Rattle.query_rows.specs.declared.shape.Shape.{Shape}
use Rattle.query_terms.specs.declared.column.Column.{Column}
use Rattle.query_code.specs.declared.instruction.Push as pushes
use Rattle.query_code.specs.declared.instruction.Push.TheVariants as push
use Rattle.query_code.specs.declared.instruction.Instruction.{Instruction}
use Rattle.query_code.specs.declared.instruction.Instruction.TheVariants.{Push, Unary}
use Rattle.query_code.specs.declared.program.Constant.{Constant}
use Rattle.query_code.specs.declared.program.Constant.TheVariants as constant
use Rattle.plain_machine.specs.Pool.{key_at, operation_of}
use Rattle.well_shaped.specs.Laws.{is_some}
use Rattle.well_shaped.specs.Sections.{Loads, column_at, shape_at, shape_by}

abbrev pub IfThere : {A : Type 0} → (A → Type 0) → Option A → Type 0
IfThere P None = ⊤
IfThere P (Some x) = P x

-- the shape of a column that is told by the bounds
abbrev pub of_posting : Loads → Column → Option Shape
of_posting l c = option_and_then (shape_by c) l.posting

-- The column, the key or the aggregate is known, and metadata where there is a posting.
abbrev pub is_known : Loads → pushes.Push → Bool
is_known l (push.LoadColumn n) = is_some (column_at l n)
is_known l (push.LoadKey k) = is_some (slice_get l.keys k)
is_known l (push.LoadAggregate a) = is_some (slice_get l.aggregates a)
is_known l (push.Meta i) = is_some l.posting
is_known l (push.EntryMeta i) = is_some l.posting
is_known l (push.AnyMeta i) = is_some l.posting
is_known l op = true

-- the pool has what is pushed there, in the right kind
abbrev pub has_pushed : List Constant → pushes.Push → Bool
has_pushed pool (push.Const i) = is_some (shape_at pool i)
has_pushed pool (push.Meta i) = is_some (key_at pool i)
has_pushed pool (push.EntryMeta i) = is_some (key_at pool i)
has_pushed pool (push.AnyMeta i) = is_some (key_at pool i)
has_pushed pool op = true

-- an instruction names nothing that isn't known
abbrev pub knows : Loads → Instruction → Bool
knows l (Push op) = is_known l op
knows l i = true

-- an instruction names an entry of the pool of the right kind, or none
abbrev pub has_entry : List Constant → Instruction → Bool
has_entry pool (Push op) = has_pushed pool op
has_entry pool (Unary op) = is_some (operation_of pool op)
has_entry pool i = true

abbrev pub has_some : {A : Type 0} → List A → Bool
has_some [] = false
has_some (x ∷ xs) = true

-- a list of the pool has a member
abbrev pub has_members : Constant → Bool
has_members (constant.Texts ts) = has_some ts
has_members (constant.Numbers ns) = has_some ns.counts
has_members (constant.Days ds) = has_some ds
has_members c = true
