-- How instructions are written: an opcode of one byte, and an operand behind it or none.
use Rattle.std.specs.Prelude.{ℕ, Bool, ◌^◌, nat_lt, List, [], ◌∷◌, Option, Some, None}
use Rattle.std.specs.Int.{w16}
use Rattle.query_values.specs.declared.operation.Binary.TheVariants as binary
use Rattle.query_code.specs.declared.cause.FileCauseKind.TheVariants.{BadField}
use Rattle.query_code.specs.declared.instruction.Push.TheVariants as push
use Rattle.query_code.specs.declared.instruction.Unary.TheVariants as unary
use Rattle.query_code.specs.declared.instruction.Instruction.{Instruction}
use Rattle.query_code.specs.declared.instruction.Instruction.TheVariants.{Push, Unary, Binary}
use Rattle.query_code.specs.declared.instruction.Instruction.TheVariants.{LoadSlot, StoreSlot, Jump}
use Rattle.query_code.specs.declared.instruction.Instruction.TheVariants.{JumpIfFalse}
use Rattle.query_code.specs.ByteForm.{Form, mapped, such_that, byte, number, just, Case, case, told}

abbrev pub at_least_one : ℕ → Bool
at_least_one n = nat_lt 0 n

-- a byte that is not 0
abbrev pub some_byte : Form ℕ
some_byte = such_that BadField at_least_one byte

abbrev pub word : Form ℕ
word = number w16 (2 ^ 16)

abbrev pub opcode : Instruction → ℕ
opcode (Push push.True) = 0
opcode (Push push.False) = 1
opcode (Push (push.Const x)) = 2
opcode (Push (push.LoadColumn x)) = 3
opcode (LoadSlot x) = 4
opcode (StoreSlot x) = 5
opcode (Push (push.LoadKey x)) = 6
opcode (Push (push.LoadAggregate x)) = 7
opcode (Unary (unary.Align x)) = 8
opcode (Binary binary.Add) = 16
opcode (Binary binary.Sub) = 17
opcode (Binary binary.Mul) = 18
opcode (Unary unary.Neg) = 19
opcode (Unary unary.Abs) = 20
opcode (Binary binary.Equal) = 32
opcode (Binary binary.NotEqual) = 33
opcode (Binary binary.Less) = 34
opcode (Binary binary.AtMost) = 35
opcode (Binary binary.Greater) = 36
opcode (Binary binary.AtLeast) = 37
opcode (Unary unary.Not) = 38
opcode (Unary unary.IsNull) = 39
opcode (Jump x) = 48
opcode (JumpIfFalse x) = 49
opcode (Unary (unary.Match x)) = 64
opcode (Unary (unary.MatchAny x)) = 65
opcode (Binary binary.InSet) = 66
opcode (Unary (unary.InList x)) = 67
opcode (Unary unary.Year) = 80
opcode (Unary unary.Month) = 81
opcode (Unary unary.Day) = 82
opcode (Unary (unary.Root x)) = 83
opcode (Unary unary.Parent) = 84
opcode (Unary unary.Leaf) = 85
opcode (Unary unary.Length) = 86
opcode (Unary unary.Units) = 87
opcode (Unary unary.Cost) = 88
opcode (Unary unary.Number) = 89
opcode (Unary unary.Currency) = 90
opcode (Push (push.Meta x)) = 91
opcode (Push (push.EntryMeta x)) = 92
opcode (Push (push.AnyMeta x)) = 93
opcode (Unary unary.RootRank) = 94

-- its operand, where it has one
abbrev pub operand_in : Instruction → Option ℕ
operand_in (Push (push.Const x)) = Some x
operand_in (Push (push.LoadColumn x)) = Some x
operand_in (LoadSlot x) = Some x
operand_in (StoreSlot x) = Some x
operand_in (Push (push.LoadKey x)) = Some x
operand_in (Push (push.LoadAggregate x)) = Some x
operand_in (Unary (unary.Align x)) = Some x
operand_in (Jump x) = Some x
operand_in (JumpIfFalse x) = Some x
operand_in (Unary (unary.Match x)) = Some x
operand_in (Unary (unary.MatchAny x)) = Some x
operand_in (Unary (unary.InList x)) = Some x
operand_in (Unary (unary.Root x)) = Some x
operand_in (Push (push.Meta x)) = Some x
operand_in (Push (push.EntryMeta x)) = Some x
operand_in (Push (push.AnyMeta x)) = Some x
operand_in i = None

abbrev pub or_0 : Option ℕ → ℕ
or_0 None = 0
or_0 (Some n) = n

abbrev pub operand_of : Instruction → ℕ
operand_of i = or_0 (operand_in i)

-- those without an operand
abbrev pub bare : List Instruction
bare =
    Push push.True ∷ Push push.False
    ∷ Binary binary.Add ∷ Binary binary.Sub ∷ Binary binary.Mul
    ∷ Unary unary.Neg ∷ Unary unary.Abs
    ∷ Binary binary.Equal ∷ Binary binary.NotEqual ∷ Binary binary.Less
    ∷ Binary binary.AtMost ∷ Binary binary.Greater ∷ Binary binary.AtLeast
    ∷ Unary unary.Not ∷ Unary unary.IsNull ∷ Binary binary.InSet
    ∷ Unary unary.Year ∷ Unary unary.Month ∷ Unary unary.Day
    ∷ Unary unary.Parent ∷ Unary unary.Leaf ∷ Unary unary.Length
    ∷ Unary unary.Units ∷ Unary unary.Cost ∷ Unary unary.Number ∷ Unary unary.Currency
    ∷ Unary unary.RootRank ∷ []

-- those with a byte behind their opcode
abbrev pub with_byte : List (ℕ → Instruction)
with_byte =
    (λ x. Push (push.LoadColumn x)) ∷ LoadSlot ∷ StoreSlot
    ∷ (λ x. Push (push.LoadKey x)) ∷ (λ x. Push (push.LoadAggregate x))
    ∷ (λ x. Unary (unary.Align x)) ∷ []

-- with one that is not 0
abbrev pub with_some_byte : List (ℕ → Instruction)
with_some_byte = (λ x. Unary (unary.Root x)) ∷ []

-- with two bytes
abbrev pub with_word : List (ℕ → Instruction)
with_word =
    (λ x. Push (push.Const x)) ∷ Jump ∷ JumpIfFalse
    ∷ (λ x. Unary (unary.Match x)) ∷ (λ x. Unary (unary.MatchAny x)) ∷ (λ x. Unary (unary.InList x))
    ∷ (λ x. Push (push.Meta x)) ∷ (λ x. Push (push.EntryMeta x)) ∷ (λ x. Push (push.AnyMeta x)) ∷ []

-- the cases of instructions without an operand, before others
abbrev pub bare_before : List (Case Instruction) → List Instruction → List (Case Instruction)
bare_before others [] = others
bare_before others (i ∷ is) = case (opcode i) (just i) ∷ bare_before others is

-- of those with an operand of that form; their opcode is the same for each operand
abbrev pub with_before : Form ℕ → List (Case Instruction) → List (ℕ → Instruction)
    → List (Case Instruction)
with_before operand others [] = others
with_before operand others (make ∷ makes) =
    case (opcode (make 1)) (mapped make operand_of operand) ∷ with_before operand others makes

unfoldable pub word_cases : List (Case Instruction)
word_cases = with_before word [] with_word

unfoldable pub operand_cases : List (Case Instruction)
operand_cases = with_before byte (with_before some_byte word_cases with_some_byte) with_byte

abbrev pub cases : List (Case Instruction)
cases = bare_before operand_cases bare

unfoldable pub instruction : Form Instruction
instruction = told opcode cases
