-- How large what a query asks may be.
use Rattle.std.specs.Prelude.{ℕ, suc, ◌<◌, ◌≤◌, List, length, IfSome, Result, Ok, Err}
use Rattle.std.specs.List.{AllByRecursion}
use Rattle.limits.specs.declared.counts.TheConstants.{LARGEST_QUERY, MOST_COMPONENTS, MOST_ITEMS}
use Rattle.bql_parser.specs.Asked.{Asked, Target, Item, ItemKind, target_item, tree_item}
use Rattle.bql_tree.specs.Tree.{Operation, leaf_of, one_of, call_of, Tree, node, Trees, no_trees}
use Rattle.bql_tree.specs.Tree.{trees}
use Rattle.bql_tree.specs.declared.cause.PartCause.{PartCause}
use Rattle.bql_tree.specs.declared.function.Function.TheVariants as function
use Rattle.bql_tree.specs.declared.tree.Leaf.{Leaf}
use Rattle.bql_tree.specs.declared.tree.Leaf.TheVariants as leaf
use Rattle.bql_tree.specs.declared.tree.UnaryOperator.{UnaryOperator}
use Rattle.bql_tree.specs.declared.tree.UnaryOperator.TheVariants as unary

-- a text of at most 65535 bytes, as many as a query may have
abbrev pub IsShort : List ℕ → Type 0
IsShort bytes = length bytes ≤ LARGEST_QUERY

abbrev pub count : {A : Type 0} → Trees A → ℕ
count no_trees = 0
count (trees t ts) = suc (count ts)

-- ---- expressions

-- its text, pattern or key is short
abbrev pub IsSmallLeaf : Leaf → Type 0
IsSmallLeaf (leaf.TooWide digits) = IsShort digits
IsSmallLeaf (leaf.Text text) = IsShort text
IsSmallLeaf (leaf.Meta entry key) = IsShort key
IsSmallLeaf (leaf.HasAccount pattern) = IsShort pattern
IsSmallLeaf l = Unit {0}

-- its pattern is short, and ROOT takes from 1 to 255 components
abbrev pub IsSmallUnary : UnaryOperator → Type 0
IsSmallUnary (unary.Matches pattern) = IsShort pattern
IsSmallUnary (unary.Root n) = (1 ≤ n) × (n ≤ MOST_COMPONENTS)
IsSmallUnary op = Unit {0}

-- ---- members of lists

-- a number, a text, a day, a truth value or NULL
abbrev pub IsLiteralLeaf : Leaf → Type 0
IsLiteralLeaf (leaf.Column c) = ⊥
IsLiteralLeaf leaf.Rows = ⊥
IsLiteralLeaf (leaf.Meta entry key) = ⊥
IsLiteralLeaf (leaf.HasAccount pattern) = ⊥
IsLiteralLeaf l = Unit {0}

abbrev pub IsLiteral : Tree ℕ → Type 0
IsLiteral (node at (leaf_of l) parts) = IsLiteralLeaf l
IsLiteral t = ⊥

abbrev pub AreLiterals : Trees ℕ → Type 0
AreLiterals no_trees = Unit {0}
AreLiterals (trees t ts) = IsLiteral t × AreLiterals ts

-- ---- operations

-- over these parts; behind what is looked for in a list stand its members, from 1 to 65535 literals
abbrev pub IsSmallIn : Operation → Trees ℕ → Type 0
IsSmallIn (leaf_of l) ts = IsSmallLeaf l
IsSmallIn (one_of op) ts = IsSmallUnary op
IsSmallIn (call_of function.OneOf) (trees t members) =
    (1 ≤ count members) × (count members ≤ LARGEST_QUERY) × AreLiterals members
IsSmallIn op ts = Unit {0}

-- an expression in which all that is written is small
abbrev mutual
  pub IsSmallTree : Tree ℕ → Type 0
  IsSmallTree (node at op parts) = IsSmallIn op parts × AreSmallTrees parts

  pub AreSmallTrees : Trees ℕ → Type 0
  AreSmallTrees no_trees = Unit {0}
  AreSmallTrees (trees t ts) = IsSmallTree t × AreSmallTrees ts

-- ---- targets and items

abbrev pub IsSmallTarget : Target → Type 0
IsSmallTarget t = IsShort t.name × IsSmallTree t.tree

-- it names one of so many targets, or is small
abbrev pub IsSmallKind : ℕ → ItemKind → Type 0
IsSmallKind targets (target_item index) = index < targets
IsSmallKind targets (tree_item t) = IsSmallTree t

abbrev pub IsSmallItem : ℕ → Item → Type 0
IsSmallItem targets i = IsSmallKind targets i.kind

-- items beside so many targets
pub record AreSmallItems (targets : ℕ) (is : List Item) : Type 0 where
  pub few : length is ≤ MOST_ITEMS
  pub all : AllByRecursion (IsSmallItem targets) is

-- ---- queries

-- from 1 to 255 targets, at most 255 items to group and to order by, each, and all of them small
pub record IsSmall (s : Asked) : Type 0 where
  pub some : 1 ≤ length s.targets
  pub few : length s.targets ≤ MOST_ITEMS
  pub targets : AllByRecursion IsSmallTarget s.targets
  pub from : IfSome s.filters.from IsSmallTree
  pub filter : IfSome s.filters.filter IsSmallTree
  pub group : IfSome s.group (AreSmallItems (length s.targets))
  pub order : AreSmallItems (length s.targets) s.order.items

-- what is found, if it is found
abbrev pub IsSmallFound : Result Asked PartCause → Type 0
IsSmallFound (Ok s) = IsSmall s
IsSmallFound (Err c) = Unit {0}
