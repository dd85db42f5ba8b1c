-- A program as it is shown.
use Rattle.std.specs.Prelude.{ℕ, ◌+◌, List, [], ◌∷◌, ◌++◌, length, Option, Some, None, codes}
use Rattle.std.specs.Prelude.{decimal}
use Rattle.bean_base.specs.Character.{space, line_feed}
use Rattle.query_values.specs.declared.operation.Binary as operation
use Rattle.query_values.specs.declared.operation.Binary.TheVariants as binary
use Rattle.query_code.specs.InstructionForm.{operand_in}
use Rattle.query_code.specs.declared.instruction.Push as pushes
use Rattle.query_code.specs.declared.instruction.Push.TheVariants as push
use Rattle.query_code.specs.declared.instruction.Unary as unaries
use Rattle.query_code.specs.declared.instruction.Unary.TheVariants as unary
use Rattle.query_code.specs.declared.instruction.Instruction.{Instruction}
use Rattle.query_code.specs.declared.instruction.Instruction.TheVariants.{Push, Unary, Binary}
use Rattle.query_code.specs.declared.instruction.Instruction.TheVariants.{LoadSlot, StoreSlot, Jump}
use Rattle.query_code.specs.declared.instruction.Instruction.TheVariants.{JumpIfFalse}
use Rattle.query_code.specs.declared.program.Mode.{Mode}
use Rattle.query_code.specs.declared.program.Mode.TheVariants.{Plain, Grouped}
use Rattle.query_code.specs.declared.program.Code.{Code}
use Rattle.query_code.specs.declared.program.Parts.{Parts}
use Rattle.limits.specs.Version.{number as version_number}
use Rattle.limits.specs.declared.bounds.Bounds.{Bounds}

abbrev pub name_of_push : pushes.Push → List ℕ
name_of_push push.True = codes "TRUE"
name_of_push push.False = codes "FALSE"
name_of_push (push.Const x) = codes "CONST"
name_of_push (push.LoadColumn x) = codes "LOAD_COL"
name_of_push (push.LoadKey x) = codes "LOAD_KEY"
name_of_push (push.LoadAggregate x) = codes "LOAD_AGG"
name_of_push (push.Meta x) = codes "META"
name_of_push (push.EntryMeta x) = codes "ENTRY_META"
name_of_push (push.AnyMeta x) = codes "ANY_META"

abbrev pub name_of_unary : unaries.Unary → List ℕ
name_of_unary (unary.Align x) = codes "ALIGN"
name_of_unary unary.Neg = codes "NEG"
name_of_unary unary.Abs = codes "ABS"
name_of_unary unary.Not = codes "NOT"
name_of_unary unary.IsNull = codes "IS_NULL"
name_of_unary (unary.Match x) = codes "MATCH"
name_of_unary (unary.MatchAny x) = codes "MATCH_ANY"
name_of_unary (unary.InList x) = codes "IN_LIST"
name_of_unary unary.Year = codes "YEAR"
name_of_unary unary.Month = codes "MONTH"
name_of_unary unary.Day = codes "DAY"
name_of_unary (unary.Root x) = codes "ROOT"
name_of_unary unary.Parent = codes "PARENT"
name_of_unary unary.Leaf = codes "LEAF"
name_of_unary unary.Length = codes "LENGTH"
name_of_unary unary.Units = codes "UNITS"
name_of_unary unary.Cost = codes "COST"
name_of_unary unary.Number = codes "NUMBER"
name_of_unary unary.Currency = codes "CURRENCY"
name_of_unary unary.RootRank = codes "ROOT_RANK"

abbrev pub name_of_binary : operation.Binary → List ℕ
name_of_binary binary.Add = codes "ADD"
name_of_binary binary.Sub = codes "SUB"
name_of_binary binary.Mul = codes "MUL"
name_of_binary binary.Equal = codes "EQ"
name_of_binary binary.NotEqual = codes "NE"
name_of_binary binary.Less = codes "LT"
name_of_binary binary.AtMost = codes "LE"
name_of_binary binary.Greater = codes "GT"
name_of_binary binary.AtLeast = codes "GE"
name_of_binary binary.InSet = codes "IN_SET"

abbrev pub name_of : Instruction → List ℕ
name_of (Push p) = name_of_push p
name_of (Unary u) = name_of_unary u
name_of (Binary b) = name_of_binary b
name_of (LoadSlot x) = codes "LOAD_SLOT"
name_of (StoreSlot x) = codes "STORE_SLOT"
name_of (Jump x) = codes "JUMP"
name_of (JumpIfFalse x) = codes "JUMP_IF_FALSE"

-- words with a number behind them
abbrev pub labelled : List ℕ → ℕ → List ℕ
labelled words n = words ++ (space ∷ decimal n)

abbrev pub with_operand : Option ℕ → List ℕ
with_operand None = []
with_operand (Some n) = space ∷ decimal n

-- its number, its name and its operand
abbrev pub instruction_line : ℕ → Instruction → List ℕ
instruction_line n i =
    decimal n ++ (space ∷ name_of i ++ (with_operand (operand_in i) ++ line_feed ∷ []))

abbrev pub lines_from : ℕ → List Instruction → List ℕ
lines_from n [] = []
lines_from n (i ∷ is) = instruction_line n i ++ lines_from (n + 1) is

abbrev pub section_lines : List ℕ → List Instruction → List ℕ
section_lines name is = labelled name (length is) ++ (line_feed ∷ lines_from 0 is)

abbrev pub bounds_line : Bounds → List ℕ
bounds_line b =
    labelled (codes "version") (version_number b.schema)
    ++ (labelled (codes " postings") b.postings
    ++ (labelled (codes " digits") b.units_digits
    ++ (labelled (codes " value-digits") b.value_digits ++ line_feed ∷ [])))

abbrev pub grouped_line : ℕ → ℕ → List ℕ
grouped_line keys aggregates =
    labelled (codes "grouped keys") keys
    ++ (labelled (codes " aggregates") aggregates ++ line_feed ∷ [])

abbrev pub mode_line : Mode → Code → List ℕ
mode_line Plain c = codes "plain" ++ line_feed ∷ []
mode_line Grouped c = grouped_line c.keys (length c.aggregates)

abbrev pub listing : Parts → List ℕ
listing p =
    bounds_line p.bounds
    ++ (mode_line p.mode p.code
    ++ (section_lines (codes "filter") p.code.filter
    ++ (section_lines (codes "row") p.code.row
    ++ section_lines (codes "last") p.code.last)))
