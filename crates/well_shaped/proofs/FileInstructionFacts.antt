-- Which instructions can be written: those whose operands have room behind their opcodes.
use Rattle.std.proofs.Common.{◌≡◌, ◌^◌, ◌<◌, true, refl, arith}
use Rattle.std.specs.Prelude.{⊤}
use Rattle.query_code.specs.InstructionForm.{at_least_one, instruction, operand_cases, word_cases}
use Rattle.query_code.specs.declared.instruction.Instruction.{Instruction}
use Rattle.query_code.specs.declared.instruction.Instruction.TheVariants.{Push, Unary, Binary}
use Rattle.query_code.specs.declared.instruction.Instruction.TheVariants.{LoadSlot, StoreSlot, Jump}
use Rattle.query_code.specs.declared.instruction.Instruction.TheVariants.{JumpIfFalse}
use Rattle.query_code.specs.declared.instruction.Push.TheVariants as push
use Rattle.query_code.specs.declared.instruction.Unary.TheVariants as unary
use Rattle.query_values.specs.declared.operation.Binary.TheVariants as binary

-- of one byte, of two, or none
abbrev pub HasRoom : Instruction → Type 0
HasRoom (Push (push.Const x)) = x < 2 ^ 16
HasRoom (Push (push.LoadColumn x)) = x < 256
HasRoom (Push (push.LoadKey x)) = x < 256
HasRoom (Push (push.LoadAggregate x)) = x < 256
HasRoom (Push (push.Meta x)) = x < 2 ^ 16
HasRoom (Push (push.EntryMeta x)) = x < 2 ^ 16
HasRoom (Push (push.AnyMeta x)) = x < 2 ^ 16
HasRoom (Unary (unary.Align x)) = x < 256
HasRoom (Unary (unary.Match x)) = x < 2 ^ 16
HasRoom (Unary (unary.MatchAny x)) = x < 2 ^ 16
HasRoom (Unary (unary.InList x)) = x < 2 ^ 16
HasRoom (Unary (unary.Root x)) = (x < 256) × (at_least_one x ≡ true)
HasRoom (LoadSlot x) = x < 256
HasRoom (StoreSlot x) = x < 256
HasRoom (Jump x) = x < 2 ^ 16
HasRoom (JumpIfFalse x) = x < 2 ^ 16
HasRoom i = ⊤

pub instruction_fits : (i : Instruction) → HasRoom i → instruction.fits i
unfolding instruction operand_cases word_cases
instruction_fits (Push push.True) h = ((omega arith, refl), refl)
instruction_fits (Push push.False) h = ((omega arith, refl), refl)
instruction_fits (Push (push.Const x)) h = ((omega arith, (h, refl)), refl)
instruction_fits (Push (push.LoadColumn x)) h = ((omega arith, (h, refl)), refl)
instruction_fits (Push (push.LoadKey x)) h = ((omega arith, (h, refl)), refl)
instruction_fits (Push (push.LoadAggregate x)) h = ((omega arith, (h, refl)), refl)
instruction_fits (Push (push.Meta x)) h = ((omega arith, (h, refl)), refl)
instruction_fits (Push (push.EntryMeta x)) h = ((omega arith, (h, refl)), refl)
instruction_fits (Push (push.AnyMeta x)) h = ((omega arith, (h, refl)), refl)
instruction_fits (Unary (unary.Align x)) h = ((omega arith, (h, refl)), refl)
instruction_fits (Unary unary.Neg) h = ((omega arith, refl), refl)
instruction_fits (Unary unary.Abs) h = ((omega arith, refl), refl)
instruction_fits (Unary unary.Not) h = ((omega arith, refl), refl)
instruction_fits (Unary unary.IsNull) h = ((omega arith, refl), refl)
instruction_fits (Unary (unary.Match x)) h = ((omega arith, (h, refl)), refl)
instruction_fits (Unary (unary.MatchAny x)) h = ((omega arith, (h, refl)), refl)
instruction_fits (Unary (unary.InList x)) h = ((omega arith, (h, refl)), refl)
instruction_fits (Unary unary.Year) h = ((omega arith, refl), refl)
instruction_fits (Unary unary.Month) h = ((omega arith, refl), refl)
instruction_fits (Unary unary.Day) h = ((omega arith, refl), refl)
instruction_fits (Unary (unary.Root x)) h = ((omega arith, (h, refl)), refl)
instruction_fits (Unary unary.Parent) h = ((omega arith, refl), refl)
instruction_fits (Unary unary.Leaf) h = ((omega arith, refl), refl)
instruction_fits (Unary unary.Length) h = ((omega arith, refl), refl)
instruction_fits (Unary unary.Units) h = ((omega arith, refl), refl)
instruction_fits (Unary unary.Cost) h = ((omega arith, refl), refl)
instruction_fits (Unary unary.Number) h = ((omega arith, refl), refl)
instruction_fits (Unary unary.Currency) h = ((omega arith, refl), refl)
instruction_fits (Unary unary.RootRank) h = ((omega arith, refl), refl)
instruction_fits (Binary binary.Add) h = ((omega arith, refl), refl)
instruction_fits (Binary binary.Sub) h = ((omega arith, refl), refl)
instruction_fits (Binary binary.Mul) h = ((omega arith, refl), refl)
instruction_fits (Binary binary.Equal) h = ((omega arith, refl), refl)
instruction_fits (Binary binary.NotEqual) h = ((omega arith, refl), refl)
instruction_fits (Binary binary.Less) h = ((omega arith, refl), refl)
instruction_fits (Binary binary.AtMost) h = ((omega arith, refl), refl)
instruction_fits (Binary binary.Greater) h = ((omega arith, refl), refl)
instruction_fits (Binary binary.AtLeast) h = ((omega arith, refl), refl)
instruction_fits (Binary binary.InSet) h = ((omega arith, refl), refl)
instruction_fits (LoadSlot x) h = ((omega arith, (h, refl)), refl)
instruction_fits (StoreSlot x) h = ((omega arith, (h, refl)), refl)
instruction_fits (Jump x) h = ((omega arith, (h, refl)), refl)
instruction_fits (JumpIfFalse x) h = ((omega arith, (h, refl)), refl)
