-- Code of a few expressions, computed.
use Rattle.std.proofs.Common.{◌≡◌, List, [], ◌∷◌, codes, refl}
use Rattle.query_code.specs.declared.instruction.Instruction.TheVariants.{Push, Unary, Binary, Jump}
use Rattle.query_code.specs.declared.instruction.Instruction.TheVariants.{JumpIfFalse}
use Rattle.query_code.specs.declared.instruction.Push.TheVariants as push
use Rattle.query_code.specs.declared.instruction.Unary.TheVariants as unary
use Rattle.query_code.specs.declared.program.Constant.{Constant}
use Rattle.query_code.specs.declared.program.Constant.TheVariants as constants
use Rattle.query_terms.specs.declared.column.Column.TheVariants as columns
use Rattle.query_values.specs.declared.operation.Binary.TheVariants as operations
use Rattle.bql_code.specs.Code.{code, all_code, depth, all_depth}
use Rattle.bql_code.specs.Core.{Core, constant, column, loading, changing, joining, both}
use Rattle.bql_code.specs.Core.{either, matching}
use Rattle.bql_code.specs.Pool.{pooled, used}

abbrev account : Core
account = loading (column columns.Account)

abbrev of_cash : Core
of_cash = changing (matching (codes "cash")) account

abbrev is_flagged : Core
is_flagged =
    joining operations.Equal (loading (column columns.Flag)) (loading (constant (constants.Text (codes "!"))))

abbrev pool : List Constant
pool = pooled [] (used (both of_cash is_flagged))

-- in order of first use
two_constants : pool ≡ constants.Pattern (codes "cash") ∷ constants.Text (codes "!") ∷ []
two_constants = refl

-- account ~ 'cash' AND flag = '!'
of_and :
    code pool 0 (both of_cash is_flagged)
    ≡ Push (push.LoadColumn 9) ∷ Unary (unary.Match 0) ∷ JumpIfFalse 9
    ∷ Push (push.LoadColumn 4) ∷ Push (push.Const 1) ∷ Binary operations.Equal ∷ JumpIfFalse 9
    ∷ Push push.True ∷ Jump 10 ∷ Push push.False ∷ []
of_and = refl

-- account ~ 'cash' OR flag = '!'
of_or :
    code pool 0 (either of_cash is_flagged)
    ≡ Push (push.LoadColumn 9) ∷ Unary (unary.Match 0) ∷ JumpIfFalse 5 ∷ Push push.True ∷ Jump 12
    ∷ Push (push.LoadColumn 4) ∷ Push (push.Const 1) ∷ Binary operations.Equal ∷ JumpIfFalse 11
    ∷ Push push.True ∷ Jump 12 ∷ Push push.False ∷ []
of_or = refl

-- a second expression begins where the first ends
behind_one_other :
    all_code pool 0 (account ∷ both account account ∷ [])
    ≡ Push (push.LoadColumn 9)
    ∷ Push (push.LoadColumn 9) ∷ JumpIfFalse 7 ∷ Push (push.LoadColumn 9) ∷ JumpIfFalse 7
    ∷ Push push.True ∷ Jump 8 ∷ Push push.False ∷ []
behind_one_other = refl

-- an equation stands on two values, behind another on three
on_two : depth is_flagged ≡ 2
on_two = refl

on_three : all_depth 0 (account ∷ is_flagged ∷ []) ≡ 3
on_three = refl
