-- How many instructions the code of an expression has.
use Rattle.std.proofs.Common.{◌≡◌, ℕ, ◌+◌, List, [], ◌∷◌, ◌++◌, length, refl, arith, length-append}
use Rattle.query_code.specs.declared.instruction.Instruction.{Instruction}
use Rattle.query_code.specs.declared.instruction.Instruction.TheVariants.{Push, Unary, Binary, Jump}
use Rattle.query_code.specs.declared.instruction.Instruction.TheVariants.{JumpIfFalse}
use Rattle.query_code.specs.declared.instruction.Push.TheVariants as push
use Rattle.query_code.specs.declared.program.Constant.{Constant}
use Rattle.bql_code.specs.Code.{verdict, behind_and, behind_or, both_code, either_code, code}
use Rattle.bql_code.specs.Code.{all_code, change_of, size, all_size}
use Rattle.bql_code.specs.Core.{Core, loading, changing, joining, both, either}

-- with an operation behind it
with_one : (xs : List Instruction) (i : Instruction) → length (xs ++ i ∷ []) ≡ length xs + 1
with_one xs i = length-append xs (i ∷ [])

both_length : (place : ℕ) (xs ys : List Instruction)
    → length (both_code place xs ys) ≡ length xs + length ys + 5
both_length place xs ys =
    let end = behind_and place xs + length ys in
    let rest = ys ++ verdict end in
    omega (arith, length-append xs (JumpIfFalse (end + 3) ∷ rest), length-append ys (verdict end))

either_length : (place : ℕ) (xs ys : List Instruction)
    → length (either_code place xs ys) ≡ length xs + length ys + 7
either_length place xs ys =
    let end = behind_or place xs + length ys in
    let rest = ys ++ verdict end in
    omega (
      arith,
      length-append xs
          (JumpIfFalse (behind_or place xs) ∷ Push push.True ∷ Jump (end + 4) ∷ rest),
      length-append ys (verdict end),
    )

pub code_size : (pool : List Constant) (place : ℕ) (c : Core)
    → length (code pool place c) ≡ size c
code_size pool place (loading l) = refl
code_size pool place (changing op x) =
    omega (
      arith,
      with_one (code pool place x) (Unary (change_of pool op)),
      code_size pool place x,
    )
code_size pool place (joining op x y) =
    let xs = code pool place x in
    let ys = code pool (place + length xs) y in
    omega (
      arith,
      length-append xs (ys ++ Binary op ∷ []),
      with_one ys (Binary op),
      code_size pool place x,
      code_size pool (place + length xs) y,
    )
code_size pool place (both x y) =
    let xs = code pool place x in
    let ys = code pool (behind_and place xs) y in
    omega (
      arith,
      both_length place xs ys,
      code_size pool place x,
      code_size pool (behind_and place xs) y,
    )
code_size pool place (either x y) =
    let xs = code pool place x in
    let ys = code pool (behind_or place xs) y in
    omega (
      arith,
      either_length place xs ys,
      code_size pool place x,
      code_size pool (behind_or place xs) y,
    )

pub all_code_size : (pool : List Constant) (place : ℕ) (cs : List Core)
    → length (all_code pool place cs) ≡ all_size cs
all_code_size pool place [] = refl
all_code_size pool place (c ∷ cs) =
    let xs = code pool place c in
    omega (
      arith,
      length-append xs (all_code pool (place + length xs) cs),
      code_size pool place c,
      all_code_size pool (place + length xs) cs,
    )
