-- The instructions that compute an expression at a place of a section: operands from left to right,
-- and behind them the operation.
use Rattle.std.specs.Prelude.{ℕ, ◌+◌, Bool, true, false, max, List, [], ◌∷◌, ◌++◌, length}
use Rattle.bql_tree.specs.declared.tree.MetadataOwner as entries
use Rattle.bql_tree.specs.declared.tree.MetadataOwner.TheVariants.{Posting, Transaction, Any}
use Rattle.query_code.specs.declared.instruction.Instruction.{Instruction}
use Rattle.query_code.specs.declared.instruction.Instruction.TheVariants.{Push, Unary, Binary, Jump}
use Rattle.query_code.specs.declared.instruction.Instruction.TheVariants.{JumpIfFalse}
use Rattle.query_code.specs.declared.instruction.Push as pushes
use Rattle.query_code.specs.declared.instruction.Push.TheVariants as push
use Rattle.query_code.specs.declared.instruction.Unary as unaries
use Rattle.query_code.specs.declared.instruction.Unary.TheVariants as unary
use Rattle.query_code.specs.declared.program.Constant.{Constant}
use Rattle.query_code.specs.declared.program.Constant.TheVariants as constants
use Rattle.query_terms.specs.Column.{number}
use Rattle.bql_code.specs.Core.{Load, truth, constant, column, entry, key, aggregate, Change}
use Rattle.bql_code.specs.Core.{plainly, matching, some_matching, among, Core, loading, changing}
use Rattle.bql_code.specs.Core.{joining, both, either}
use Rattle.bql_code.specs.Pool.{index_in}

-- Behind the second operand of AND and of OR, at this place: TRUE where it holds, and else FALSE.
abbrev pub verdict : ℕ → List Instruction
verdict place =
    JumpIfFalse (place + 3) ∷ Push push.True ∷ Jump (place + 4) ∷ Push push.False ∷ []

-- where the second operand of AND begins, and of OR
abbrev pub behind_and : ℕ → List Instruction → ℕ
behind_and place first = place + length first + 1

abbrev pub behind_or : ℕ → List Instruction → ℕ
behind_or place first = place + length first + 3

-- where the first operand isn't true, on to FALSE
abbrev pub both_code : ℕ → List Instruction → List Instruction → List Instruction
both_code place first second =
    let end = behind_and place first + length second in
    first ++ (JumpIfFalse (end + 3) ∷ second ++ verdict end)

-- where the first operand is true, TRUE and on to the end
abbrev pub either_code : ℕ → List Instruction → List Instruction → List Instruction
either_code place first second =
    let end = behind_or place first + length second in
    first
    ++ (JumpIfFalse (behind_or place first) ∷ Push push.True ∷ Jump (end + 4)
    ∷ second ++ verdict end)

module _ (pool : List Constant) where
  abbrev pub of_truth : Bool → pushes.Push
  of_truth true = push.True
  of_truth false = push.False

  -- by the index of its key in the pool
  abbrev pub of_entry : entries.MetadataOwner → ℕ → pushes.Push
  of_entry Posting index = push.Meta index
  of_entry Transaction index = push.EntryMeta index
  of_entry Any index = push.AnyMeta index

  abbrev pub load_of : Load → pushes.Push
  load_of (truth b) = of_truth b
  load_of (constant c) = push.Const (index_in pool c)
  load_of (column c) = push.LoadColumn (number c)
  load_of (entry e k) = of_entry e (index_in pool (constants.Text k))
  load_of (key k) = push.LoadKey k
  load_of (aggregate a) = push.LoadAggregate a

  abbrev pub change_of : Change → unaries.Unary
  change_of (plainly op) = op
  change_of (matching p) = unary.Match (index_in pool (constants.Pattern p))
  change_of (some_matching p) = unary.MatchAny (index_in pool (constants.Pattern p))
  change_of (among c) = unary.InList (index_in pool c)

  -- the code of an expression that begins at a place
  abbrev pub code : ℕ → Core → List Instruction
  code place (loading l) = Push (load_of l) ∷ []
  code place (changing op x) = code place x ++ Unary (change_of op) ∷ []
  code place (joining op x y) =
      code place x ++ (code (place + length (code place x)) y ++ Binary op ∷ [])
  code place (both x y) =
      both_code place (code place x) (code (behind_and place (code place x)) y)
  code place (either x y) =
      either_code place (code place x) (code (behind_or place (code place x)) y)

  -- one behind the other
  abbrev pub all_code : ℕ → List Core → List Instruction
  all_code place [] = []
  all_code place (x ∷ xs) =
      code place x ++ all_code (place + length (code place x)) xs

-- ---- how many instructions these are

abbrev pub size : Core → ℕ
size (loading l) = 1
size (changing op x) = size x + 1
size (joining op x y) = size x + size y + 1
size (both x y) = size x + size y + 5
size (either x y) = size x + size y + 7

abbrev pub all_size : List Core → ℕ
all_size [] = 0
all_size (x ∷ xs) = size x + all_size xs

-- ---- how many values stand on the stack at most

abbrev pub depth : Core → ℕ
depth (loading l) = 1
depth (changing op x) = depth x
depth (joining op x y) = max (depth x) (depth y + 1)
depth (both x y) = max (depth x) (depth y)
depth (either x y) = max (depth x) (depth y)

-- of some behind the other, on as many values as those before them leave
abbrev pub all_depth : ℕ → List Core → ℕ
all_depth below [] = below
all_depth below (x ∷ xs) = max (below + depth x) (all_depth (below + 1) xs)
