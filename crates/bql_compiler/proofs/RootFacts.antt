-- The code of a small expression takes no more components of an account than one byte tells.
use Rattle.std.proofs.Common.{ℕ, ◌+◌, max, Bool, true, false, cond, ltb, List, [], ◌∷◌, ◌++◌}
use Rattle.std.proofs.Common.{length, Option, Some, None}
use Rattle.std.specs.Prelude.{⊤}
use Rattle.std.specs.List.{AllByRecursion}
use Rattle.limits.specs.declared.bounds.Bounds.{Bounds}
use Rattle.bql_code.specs.Code.{all_code, behind_and, behind_or, both_code, change_of, code}
use Rattle.bql_code.specs.Code.{either_code, verdict}
use Rattle.bql_code.specs.Core.{Core, Change, loading, changing, joining, both, either, plainly}
use Rattle.bql_code.specs.Core.{matching, some_matching, among, aggregate, key}
use Rattle.bql_lowering.specs.Lowered.{Gathered, aligned, all_lowered, by_operation, has}
use Rattle.bql_lowering.specs.Lowered.{joined, list_places, lowered, of_binary}
use Rattle.bql_lowering.specs.Lowered.{of_function, of_leaf, of_null, of_unary, places_of}
use Rattle.bql_parser.specs.Small.{AreSmallTrees, IsSmallTree, IsSmallUnary}
use Rattle.bql_plan.specs.Plan.{index_of}
use Rattle.bql_tree.specs.Tree.{Operation, leaf_of, one_of, two_of, call_of, Tree, node, Trees}
use Rattle.bql_tree.specs.Tree.{no_trees, trees}
use Rattle.bql_tree.specs.declared.function.Function.{Function}
use Rattle.bql_tree.specs.declared.function.Function.TheVariants as function
use Rattle.bql_tree.specs.declared.tree.BinaryOperator.{BinaryOperator}
use Rattle.bql_tree.specs.declared.tree.BinaryOperator.TheVariants as binary
use Rattle.bql_tree.specs.declared.tree.Leaf.{Leaf}
use Rattle.bql_tree.specs.declared.tree.Leaf.TheVariants as leaf
use Rattle.bql_tree.specs.declared.tree.UnaryOperator.{UnaryOperator}
use Rattle.bql_tree.specs.declared.tree.UnaryOperator.TheVariants as unary
use Rattle.bql_types.specs.Shaped.{is_null}
use Rattle.query_code.specs.declared.instruction.Instruction.{Instruction}
use Rattle.query_code.specs.declared.instruction.Instruction.TheVariants.{Push, Unary, Binary}
use Rattle.query_code.specs.declared.instruction.Instruction.TheVariants.{Jump, JumpIfFalse}
use Rattle.query_code.specs.declared.instruction.Push.TheVariants as push
use Rattle.query_code.specs.declared.instruction.Unary.TheVariants as operation
use Rattle.query_code.specs.declared.program.Constant.{Constant}
use Rattle.query_values.specs.declared.operation.Binary as two
use Rattle.query_values.specs.declared.operation.Binary.TheVariants as operations
use Rattle.well_shaped.specs.Files.{TakesFew}
use Rattle.bql_compiler.proofs.SchemeListFacts.{both_are}

-- ---- what is computed

abbrev ChangesFew : Change → Type 0
ChangesFew (plainly op) = TakesFew (Unary op)
ChangesFew c = ⊤

-- each operation of an expression takes few components
abbrev pub IsFew : Core → Type 0
IsFew (loading l) = ⊤
IsFew (changing op x) = ChangesFew op × IsFew x
IsFew (joining op x y) = IsFew x × IsFew y
IsFew (both x y) = IsFew x × IsFew y
IsFew (either x y) = IsFew x × IsFew y

abbrev AllTakeFew : List Instruction → Type 0
AllTakeFew is = AllByRecursion TakesFew is

changed_few : (pool : List Constant) (op : Change) → ChangesFew op
    → TakesFew (Unary (change_of pool op))
changed_few pool (plainly op) h = h
changed_few pool (matching p) h = tt
changed_few pool (some_matching p) h = tt
changed_few pool (among c) h = tt

verdict_few : (place : ℕ) → AllTakeFew (verdict place)
verdict_few place = (tt, (tt, (tt, (tt, tt))))

joined_code_few : (first second : List Instruction) (op : two.Binary) → AllTakeFew first
    → AllTakeFew second → AllTakeFew (first ++ (second ++ Binary op ∷ []))
joined_code_few first second op h k =
    both_are TakesFew first (second ++ Binary op ∷ []) h
    (both_are TakesFew second (Binary op ∷ []) k (tt, tt))

both_code_few : (place : ℕ) (first second : List Instruction) → AllTakeFew first
    → AllTakeFew second → AllTakeFew (both_code place first second)
both_code_few place first second h k =
    let end : ℕ = behind_and place first + length second in
    both_are TakesFew first (JumpIfFalse (end + 3) ∷ second ++ verdict end) h
    (tt, both_are TakesFew second (verdict end) k (verdict_few end))

either_code_few : (place : ℕ) (first second : List Instruction) → AllTakeFew first
    → AllTakeFew second → AllTakeFew (either_code place first second)
either_code_few place first second h k =
    let end : ℕ = behind_or place first + length second in
    both_are TakesFew first
    (JumpIfFalse (behind_or place first) ∷ Push push.True ∷ Jump (end + 4)
    ∷ second ++ verdict end) h
    (tt, (tt, (tt, both_are TakesFew second (verdict end) k (verdict_few end))))

pub code_few : (pool : List Constant) (place : ℕ) (x : Core) → IsFew x → AllTakeFew (code pool place x)
code_few pool place (loading l) h = (tt, tt)
code_few pool place (changing op x) h =
    both_are TakesFew (code pool place x) (Unary (change_of pool op) ∷ [])
    (code_few pool place x h.1) (changed_few pool op h.0, tt)
code_few pool place (joining op x y) h =
    joined_code_few (code pool place x) (code pool (place + length (code pool place x)) y) op
    (code_few pool place x h.0) (code_few pool (place + length (code pool place x)) y h.1)
code_few pool place (both x y) h =
    both_code_few place (code pool place x) (code pool (behind_and place (code pool place x)) y)
    (code_few pool place x h.0) (code_few pool (behind_and place (code pool place x)) y h.1)
code_few pool place (either x y) h =
    either_code_few place (code pool place x) (code pool (behind_or place (code pool place x)) y)
    (code_few pool place x h.0) (code_few pool (behind_or place (code pool place x)) y h.1)

pub all_code_few : (pool : List Constant) (place : ℕ) (xs : List Core)
    → AllByRecursion IsFew xs → AllTakeFew (all_code pool place xs)
all_code_few pool place [] h = tt
all_code_few pool place (x ∷ xs) h =
    both_are TakesFew (code pool place x)
    (all_code pool (place + length (code pool place x)) xs) (code_few pool place x h.0)
    (all_code_few pool (place + length (code pool place x)) xs h.1)

-- ---- what small expressions are lowered to

aligned_few : (p : Option ℕ) (q : ℕ) (x : Core) → IsFew x → IsFew (aligned p q x)
aligned_few None q x h = h
aligned_few (Some p) q x h = by (ltb p q)
  where
    by : (is : Bool) → IsFew (cond is (changing (plainly (operation.Align q)) x) x)
    by true = (tt, h)
    by false = h

joined_few : (op : two.Binary) (p q : Option ℕ) (x y : Core) → IsFew x → IsFew y
    → IsFew (joined op p q x y)
joined_few op (Some p) (Some q) x y h k =
    (aligned_few (Some p) (max p q) x h, aligned_few (Some q) (max p q) y k)
joined_few op (Some p) None x y h k = (h, k)
joined_few op None q x y h k = (h, k)

leaf_few : (l : Leaf) → IsFew (of_leaf l)
leaf_few (leaf.HasAccount p) = (tt, tt)
leaf_few l = tt

unary_few : (op : UnaryOperator) (x : Core) → IsSmallUnary op → IsFew x → IsFew (of_unary op x)
unary_few unary.Not x small h = (tt, h)
unary_few unary.Minus x small h = (tt, h)
unary_few (unary.Matches p) x small h = (tt, h)
unary_few (unary.Root n) x small h = (small.1, h)

null_few : (op : BinaryOperator) (x : Core) → IsFew x → IsFew (of_null op x)
null_few binary.NotEqual x h = (tt, (tt, h))
null_few op x h = (tt, h)

binary_few : (op : BinaryOperator) (p q : Option ℕ) (x y : Core) → IsFew x → IsFew y
    → IsFew (of_binary op p q x y)
binary_few binary.Or p q x y h k = (h, k)
binary_few binary.And p q x y h k = (h, k)
binary_few binary.Equal p q x y h k = joined_few operations.Equal p q x y h k
binary_few binary.NotEqual p q x y h k = joined_few operations.NotEqual p q x y h k
binary_few binary.Less p q x y h k = joined_few operations.Less p q x y h k
binary_few binary.LessOrEqual p q x y h k = joined_few operations.AtMost p q x y h k
binary_few binary.Greater p q x y h k = joined_few operations.Greater p q x y h k
binary_few binary.GreaterOrEqual p q x y h k = joined_few operations.AtLeast p q x y h k
binary_few binary.In p q x y h k = (h, k)
binary_few binary.Plus p q x y h k = joined_few operations.Add p q x y h k
binary_few binary.Minus p q x y h k = joined_few operations.Sub p q x y h k
binary_few binary.Times p q x y h k = (h, k)

function_few : (f : Function) (x : Core) → IsFew x → IsFew (of_function f x)
function_few function.Parent x h = (tt, h)
function_few function.Leaf x h = (tt, h)
function_few function.Length x h = (tt, h)
function_few function.Units x h = (tt, h)
function_few function.Cost x h = (tt, h)
function_few function.Year x h = (tt, h)
function_few function.Month x h = (tt, h)
function_few function.Day x h = (tt, h)
function_few function.Number x h = (tt, h)
function_few function.Currency x h = (tt, h)
function_few function.Abs x h = (tt, h)
function_few function.RootRank x h = (tt, h)
function_few f x h = h

module _ (b : Bounds) (g : Gathered) where
  abbrev AreFewParts : Trees ℕ → Type 0
  AreFewParts no_trees = ⊤
  AreFewParts (trees t ts) = IsFew (lowered b g t) × AreFewParts ts

  two_few : (op : BinaryOperator) (t u : Tree ℕ) → IsFew (lowered b g t) → IsFew (lowered b g u)
      → IsFew (by_operation b g (two_of op) (trees t (trees u no_trees)))
  two_few op t u h k = by (is_null u) (is_null t)
    where
      by : (v w : Bool)
          → IsFew (cond v (of_null op (lowered b g t)) (cond w (of_null op (lowered b g u))
          (of_binary op (places_of b g t) (places_of b g u) (lowered b g t) (lowered b g u))))
      by true w = null_few op (lowered b g t) h
      by false true = null_few op (lowered b g u) k
      by false false =
          binary_few op (places_of b g t) (places_of b g u) (lowered b g t) (lowered b g u) h k

  call_few : (f : Function) (ts : Trees ℕ) → AreFewParts ts → IsFew (by_operation b g (call_of f) ts)
  call_few function.OneOf no_trees h = tt
  call_few function.OneOf (trees t ts) h =
      (tt, aligned_few (places_of b g t) (list_places (places_of b g t) ts) (lowered b g t) h.0)
  call_few f no_trees h = tt
  call_few f (trees t no_trees) h = function_few f (lowered b g t) h.0
  call_few f (trees t (trees u us)) h = tt

  operation_few : (op : Operation) (ts : Trees ℕ) → IsSmallTree (node 0 op ts) → AreFewParts ts
      → IsFew (by_operation b g op ts)
  operation_few (leaf_of l) ts small h = leaf_few l
  operation_few (one_of op) no_trees small h = tt
  operation_few (one_of op) (trees t no_trees) small h =
      unary_few op (lowered b g t) small.0 h.0
  operation_few (one_of op) (trees t (trees u us)) small h = tt
  operation_few (two_of op) no_trees small h = tt
  operation_few (two_of op) (trees t no_trees) small h = tt
  operation_few (two_of op) (trees t (trees u no_trees)) small h = two_few op t u h.0 h.1.0
  operation_few (two_of op) (trees t (trees u (trees v vs))) small h = tt
  operation_few (call_of f) ts small h = call_few f ts h

  node_few : (at : ℕ) (op : Operation) (ts : Trees ℕ) → IsSmallTree (node 0 op ts)
      → AreFewParts ts → IsFew (lowered b g (node at op ts))
  node_few at op ts small h = by (has g.keys (node at op ts)) (has g.aggregates (node at op ts))
    where
      by : (k a : Bool)
          → IsFew (cond k (loading (key (index_of g.keys (node at op ts))))
          (cond a (loading (aggregate (index_of g.aggregates (node at op ts))))
          (by_operation b g op ts)))
      by true a = tt
      by false true = tt
      by false false = operation_few op ts small h

  mutual
    pub lowered_few : (t : Tree ℕ) → IsSmallTree t → IsFew (lowered b g t)
    lowered_few (node at op ts) small = node_few at op ts small (parts_few ts small.1)

    parts_few : (ts : Trees ℕ) → AreSmallTrees ts → AreFewParts ts
    parts_few no_trees small = tt
    parts_few (trees t ts) small = (lowered_few t small.0, parts_few ts small.1)

  pub all_lowered_few : (ts : List (Tree ℕ)) → AllByRecursion IsSmallTree ts
      → AllByRecursion IsFew (all_lowered b g ts)
  all_lowered_few [] small = tt
  all_lowered_few (t ∷ ts) small = (lowered_few t small.0, all_lowered_few ts small.1)
