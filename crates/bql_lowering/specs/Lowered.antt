-- What the machine computes for an expression: over the columns of a row, or behind the last row
-- over the keys and the aggregates of a group. Numbers are brought to the greater count of decimals
-- where the machine wants equal ones.
use Rattle.std.specs.Prelude.{ℕ, ℤ, pos, ◌*ℤ◌, ◌^◌, ◌-◌, nat_lt, Bool, true, false, max, List}
use Rattle.std.specs.Prelude.{[], ◌∷◌, ◌++◌, map, Option, Some, None, if◌then◌else◌}
use Rattle.limits.specs.declared.bounds.Bounds.{Bounds}
use Rattle.bean_base.specs.declared.days.Day as days
use Rattle.bql_plan.specs.Plan.{index_of}
use Rattle.bql_rules.specs.Rules.{operation_of}
use Rattle.bql_rules.specs.declared.operators.Operation as operator
use Rattle.bql_rules.specs.declared.operators.Operation.TheVariants.{Or, And, Aligned, Plain}
use Rattle.bql_tree.specs.Tree.{Operation, leaf_of, one_of, two_of, call_of, Tree, node, Trees}
use Rattle.bql_tree.specs.Tree.{no_trees, trees}
use Rattle.bql_lowering.specs.Kind.{first_kind}
use Rattle.bql_lowering.specs.declared.kind.ListKind.{ListKind}
use Rattle.bql_lowering.specs.declared.kind.ListKind.TheVariants.{Texts, Days, Numbers}
use Rattle.bql_tree.specs.declared.function.Function.{Function}
use Rattle.bql_tree.specs.declared.function.Function.TheVariants as function
use Rattle.bql_tree.specs.declared.tree.BinaryOperator.{BinaryOperator}
use Rattle.bql_tree.specs.declared.tree.BinaryOperator.TheVariants as binary
use Rattle.bql_tree.specs.declared.tree.Leaf.{Leaf}
use Rattle.bql_tree.specs.declared.tree.Leaf.TheVariants as leaf
use Rattle.bql_tree.specs.declared.tree.UnaryOperator.{UnaryOperator}
use Rattle.bql_tree.specs.declared.tree.UnaryOperator.TheVariants as unary
use Rattle.bql_types.specs.Shaped.{is_null, shape_of}
use Rattle.bql_types.specs.Sought.{is_key}
use Rattle.query_code.specs.declared.instruction.Unary as machine
use Rattle.query_code.specs.declared.instruction.Unary.TheVariants as operation
use Rattle.query_code.specs.declared.program.Constant.{Constant}
use Rattle.query_code.specs.declared.program.Constant.TheVariants as constants
use Rattle.query_terms.specs.declared.column.Column.TheVariants as columns
use Rattle.query_rows.specs.declared.shape.Shape.{Shape}
use Rattle.query_rows.specs.declared.shape.Shape.TheVariants.{Number}
use Rattle.query_values.specs.declared.operation.Binary as two
use Rattle.bql_code.specs.Core.{truth, constant, column, entry, key, aggregate, Core, loading}
use Rattle.bql_code.specs.Core.{changing, joining, both, either, plainly, matching}
use Rattle.bql_code.specs.Core.{some_matching, among}

-- ---- decimals

abbrev pub places_in : Option Shape → Option ℕ
places_in (Some (Number p m)) = Some p
places_in s = None

-- brought to more decimals, where it has fewer
abbrev pub aligned : Option ℕ → ℕ → Core → Core
aligned (Some p) q x = if nat_lt p q then changing (plainly (operation.Align q)) x else x
aligned None q x = x

-- of two numbers each is brought to the decimals of the other
abbrev pub joined : two.Binary → Option ℕ → Option ℕ → Core → Core → Core
joined op (Some p) (Some q) x y =
    joining op (aligned (Some p) (max p q) x) (aligned (Some q) (max p q) y)
joined op p q x y = joining op x y

-- whether an operation wants its operands at equal decimals, where they are numbers
abbrev pub is_aligned : operator.Operation → Bool
is_aligned (Aligned op) = true
is_aligned op = false

abbrev pub wants_places : BinaryOperator → Bool
wants_places op = is_aligned (operation_of op)

-- ---- operations

abbrev pub on_one : machine.Unary → Core → Core
on_one op x = changing (plainly op) x

abbrev pub of_leaf : Leaf → Core
of_leaf (leaf.Column c) = loading (column c)
of_leaf (leaf.Number n) = loading (constant (constants.Number n))
of_leaf (leaf.Text t) = loading (constant (constants.Text t))
of_leaf (leaf.Day d) = loading (constant (constants.Day d))
of_leaf (leaf.Truth b) = loading (truth b)
of_leaf (leaf.Meta e k) = loading (entry e k)
of_leaf (leaf.HasAccount p) = changing (some_matching p) (loading (column columns.Accounts))
of_leaf l = loading (truth false)

abbrev pub of_unary : UnaryOperator → Core → Core
of_unary unary.Not x = on_one operation.Not x
of_unary unary.Minus x = on_one operation.Neg x
of_unary (unary.Matches p) x = changing (matching p) x
of_unary (unary.Root n) x = on_one (operation.Root n) x

-- a side that is NULL asks whether the other is null
abbrev pub of_null : BinaryOperator → Core → Core
of_null binary.NotEqual x = on_one operation.Not (on_one operation.IsNull x)
of_null op x = on_one operation.IsNull x

abbrev pub of_operation : operator.Operation → Option ℕ → Option ℕ → Core → Core → Core
of_operation Or p q x y = either x y
of_operation And p q x y = both x y
of_operation (Aligned op) p q x y = joined op p q x y
of_operation (Plain op) p q x y = joining op x y

abbrev pub of_binary : BinaryOperator → Option ℕ → Option ℕ → Core → Core → Core
of_binary op p q x y = of_operation (operation_of op) p q x y

-- the operation that a function of one argument is
abbrev pub unary_of : Function → Option machine.Unary
unary_of function.Parent = Some operation.Parent
unary_of function.Leaf = Some operation.Leaf
unary_of function.Length = Some operation.Length
unary_of function.Units = Some operation.Units
unary_of function.Cost = Some operation.Cost
unary_of function.Year = Some operation.Year
unary_of function.Month = Some operation.Month
unary_of function.Day = Some operation.Day
unary_of function.Number = Some operation.Number
unary_of function.Currency = Some operation.Currency
unary_of function.Abs = Some operation.Abs
unary_of function.RootRank = Some operation.RootRank
unary_of f = None

abbrev pub by_one : Option machine.Unary → Core → Core
by_one (Some op) x = on_one op x
by_one None x = x

abbrev pub of_function : Function → Core → Core
of_function f x = by_one (unary_of f) x

-- ---- lists

abbrev pub text_in : Tree ℕ → List (List ℕ)
text_in (node at (leaf_of (leaf.Text t)) parts) = t ∷ []
text_in t = []

abbrev pub day_in : Tree ℕ → List days.Day
day_in (node at (leaf_of (leaf.Day d)) parts) = d ∷ []
day_in t = []

-- a count of so many decimals
abbrev pub count_in : ℕ → Tree ℕ → List ℤ
count_in places (node at (leaf_of (leaf.Number n)) parts) =
    (n.count *ℤ pos (10 ^ (places - n.places))) ∷ []
count_in places t = []

abbrev pub each_in : {A : Type 0} → (Tree ℕ → List A) → Trees ℕ → List A
each_in f no_trees = []
each_in f (trees t ts) = f t ++ each_in f ts

-- the greatest count of decimals of what is looked for and of the numbers of a list
abbrev pub most_places : ℕ → Trees ℕ → ℕ
most_places p no_trees = p
most_places p (trees (node at (leaf_of (leaf.Number n)) parts) ts) = most_places (max p n.places) ts
most_places p (trees t ts) = most_places p ts

-- texts, days or counts, as the first of the list is; counts of so many decimals
abbrev pub list_by : ListKind → ℕ → Trees ℕ → Constant
list_by Texts places ts = constants.Texts (each_in text_in ts)
list_by Days places ts = constants.Days (each_in day_in ts)
list_by Numbers places ts =
    constants.Numbers record { places = places; counts = each_in (count_in places) ts }

-- the decimals of the numbers of a list
abbrev pub list_places : Option ℕ → Trees ℕ → ℕ
list_places (Some p) ts = most_places p ts
list_places None ts = 0

abbrev pub in_list : Option ℕ → Core → Trees ℕ → Core
in_list p x ts =
    changing (among (list_by (first_kind ts) (list_places p ts) ts))
    (aligned p (list_places p ts) x)

-- ---- expressions

-- what is there to be loaded besides the cells of a row: the keys of a group and its aggregates
pub record Gathered : Type 0 where
  pub keys : List (Tree ℕ)
  pub aggregates : List (Tree ℕ)

-- a row has none of them
abbrev pub of_a_row : Gathered
of_a_row = record { keys = []; aggregates = [] }

abbrev pub has : List (Tree ℕ) → Tree ℕ → Bool
has ts t = is_key ts t

module _ (b : Bounds) (g : Gathered) where
  abbrev pub places_of : Tree ℕ → Option ℕ
  places_of t = places_in (shape_of b t)

  -- the largest part that is a key, or an aggregate, is loaded
  abbrev mutual
    pub lowered : Tree ℕ → Core
    lowered (node at op parts) =
        if has g.keys (node at op parts) then loading (key (index_of g.keys (node at op parts)))
        else if has g.aggregates (node at op parts)
        then loading (aggregate (index_of g.aggregates (node at op parts)))
        else by_operation op parts

    pub by_operation : Operation → Trees ℕ → Core
    by_operation (leaf_of l) parts = of_leaf l
    by_operation (one_of op) (trees t no_trees) = of_unary op (lowered t)
    by_operation (two_of op) (trees t (trees u no_trees)) =
        if is_null u then of_null op (lowered t)
        else if is_null t then of_null op (lowered u)
        else of_binary op (places_of t) (places_of u) (lowered t) (lowered u)
    by_operation (call_of function.OneOf) (trees t ts) = in_list (places_of t) (lowered t) ts
    by_operation (call_of f) (trees t no_trees) = of_function f (lowered t)
    by_operation op parts = loading (truth false)

  abbrev pub all_lowered : List (Tree ℕ) → List Core
  all_lowered ts = map lowered ts
