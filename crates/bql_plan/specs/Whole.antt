-- Which shapes are whole: those of an expression that has one with each of its parts.
use Rattle.std.specs.Prelude.{ℕ, ◌≡◌, Bool, true, ◌&&◌, List, [], ◌∷◌, ◌++◌, map, Option, Some}
use Rattle.std.specs.Prelude.{None, ◌⊎◌}
use Rattle.std.specs.List.{AllByRecursion}
use Rattle.limits.specs.declared.bounds.Bounds.{Bounds}
use Rattle.bql_parser.specs.Asked.{Asked, Item}
use Rattle.bql_plan.specs.Labels.{Label, Labels, label, labels, no_labels, labelled}
use Rattle.bql_plan.specs.Plan.{own_trees}
use Rattle.bql_tree.specs.Tree.{Tree, node, Trees, trees, no_trees}
use Rattle.query_rows.specs.declared.shape.Shape.{Shape}
use Rattle.bql_types.specs.Shaped.{is_equation, is_null}
use Rattle.bql_types.specs.Typing.{IsTyped, target_tree}

-- an expression and each of its parts have a shape, but for a NULL that is a side of an equation
abbrev mutual
  pub IsWhole : Tree ℕ → Label → Type 0
  IsWhole (node at op parts) (label s ls) =
      (t : Shape) × (s ≡ Some t) × AreWhole (is_equation op) parts ls

  pub AreWhole : Bool → Trees ℕ → Labels → Type 0
  AreWhole eq no_trees no_labels = Unit {0}
  AreWhole eq (trees t ts) (labels l ls) =
      (((eq && is_null t) ≡ true) ⊎ IsWhole t l) × AreWhole eq ts ls
  AreWhole eq ts ls = ⊥

-- ---- queries

abbrev pub filter_trees : Option (Tree ℕ) → List (Tree ℕ)
filter_trees (Some t) = t ∷ []
filter_trees None = []

abbrev pub group_trees : Option (List Item) → List (Tree ℕ)
group_trees (Some is) = own_trees is
group_trees None = []

-- all expressions that a query has
abbrev pub expressions : Asked → List (Tree ℕ)
expressions s =
    map target_tree s.targets
    ++ (filter_trees s.filters.from
    ++ (filter_trees s.filters.filter
    ++ (group_trees s.group ++ own_trees s.order.items)))

abbrev pub HasWholeShapes : Bounds → Tree ℕ → Type 0
HasWholeShapes b t = IsWhole t (labelled b t)

-- each expression of a query that has a type has whole shapes
abbrev pub TypedAreWhole : Type 0
TypedAreWhole = (b : Bounds) (s : Asked) → IsTyped b s
    → AllByRecursion (HasWholeShapes b) (expressions s)
