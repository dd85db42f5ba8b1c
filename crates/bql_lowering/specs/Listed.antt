-- Which members a list of the pool can have.
use Rattle.std.specs.Prelude.{ℕ, pos, ◌*ℤ◌, ◌-◌, ◌^◌, ◌≤◌, ◌≡◌, true, IsTrue}
use Rattle.std.specs.Option.{is_some}
use Rattle.limits.specs.declared.bounds.Bounds.{Bounds}
use Rattle.limits.specs.declared.counts.TheConstants.{LARGEST_QUERY, MOST_PLACES}
use Rattle.bql_parser.specs.Small.{AreSmallTrees, count}
use Rattle.bql_tree.specs.Tree.{leaf_of, Tree, node, Trees, no_trees, trees}
use Rattle.bql_tree.specs.declared.tree.Leaf.{Leaf}
use Rattle.bql_tree.specs.declared.tree.Leaf.TheVariants as leaf
use Rattle.bql_types.specs.Shaped.{shape_of}
use Rattle.query_code.specs.QueryFile.{is_count}
use Rattle.bql_lowering.specs.Kind.{first_leaf}

-- an expression has a shape within the bounds
abbrev pub HasShape : Bounds → Tree ℕ → Type 0
HasShape b t = is_some (shape_of b t) ≡ true

-- a number has at most so many decimals, and with so many its count is held
abbrev pub IsHeldWith : ℕ → Tree ℕ → Type 0
IsHeldWith places (node at (leaf_of (leaf.Number n)) parts) =
    (n.places ≤ places) × IsTrue (is_count (n.count *ℤ pos (10 ^ (places - n.places))))
IsHeldWith places t = Unit {0}

abbrev pub AreHeldWith : ℕ → Trees ℕ → Type 0
AreHeldWith places no_trees = Unit {0}
AreHeldWith places (trees t ts) = IsHeldWith places t × AreHeldWith places ts

-- texts, days or numbers
abbrev pub IsKind : Leaf → Type 0
IsKind (leaf.Text t) = Unit {0}
IsKind (leaf.Day d) = Unit {0}
IsKind (leaf.Number n) = Unit {0}
IsKind l = ⊥

-- members of the kind of the first, which a list of the pool can hold with so many decimals
pub record IsListed (places : ℕ) (ts : Trees ℕ) : Type 0 where
  pub kind : IsKind (first_leaf ts)
  pub few : count ts ≤ LARGEST_QUERY
  pub small : AreSmallTrees ts
  pub narrow : places ≤ MOST_PLACES
  pub held : AreHeldWith places ts
