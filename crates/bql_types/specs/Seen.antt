-- Shapes and the least cause, found at once.
use Rattle.std.specs.Prelude.{ℕ, Bool, false, ◌&&◌, List, [], ◌∷◌, ◌++◌, Option, Some, None}
use Rattle.std.specs.Prelude.{Err, Vec, if◌then◌else◌}
use Rattle.std.specs.declared.alloc.Global.{Global}
use Rattle.limits.specs.declared.bounds.Bounds.{Bounds}
use Rattle.bql_rules.specs.Rules.{binary_shape, unary_shape}
use Rattle.bql_tree.specs.Tree.{Tree, Trees}
use Rattle.bql_tree.specs.declared.tree.BinaryOperator.{BinaryOperator}
use Rattle.bql_tree.specs.declared.tree.UnaryOperator.{UnaryOperator}
use Rattle.query_rows.specs.Rules.{Ruled}
use Rattle.query_rows.specs.declared.shape.Misfit.TheVariants.{Kind}
use Rattle.query_rows.specs.declared.shape.Shape.{Shape}
use Rattle.bql_types.specs.Cause.{told}
use Rattle.bql_types.specs.Shaped as rule
use Rattle.bql_types.specs.Shaped.{given, misfit_at, shape_of, shapes_of, shape_causes, is_null}
use Rattle.bql_types.specs.Shaped.{all_shape_causes, operand, is_equality}
use Rattle.bql_types.specs.Typing.{Grouping, shown_causes, row_causes}
use Rattle.bql_types.specs.declared.cause.TypeCause.{TypeCause}
use Rattle.bql_types.specs.declared.shaped.Operand.{Operand}
use Rattle.bql_types.specs.declared.shaped.Operand.TheVariants.{Null, Shaped}
use Rattle.bql_types.specs.declared.shaped.Seen.{Seen}
use Rattle.bql_types.specs.declared.shaped.SeenAll.{SeenAll}
use Rattle.bql_types.specs.declared.shaped.SeenPart.{SeenPart}

abbrev pub concluded : ℕ → Option Ruled → Option TypeCause → Seen
concluded at r found = record { shape = given r; found = told found (misfit_at at r) }

abbrev pub before : UnaryOperator → Option Shape → Option Ruled
before op (Some s) = Some (unary_shape op s)
before op None = None

abbrev pub between : BinaryOperator → Operand → Operand → Option Ruled
between op (Shaped s) (Shaped t) = Some (binary_shape op s t)
between op (Shaped s) Null = Some (rule.beside_null op)
between op Null (Shaped t) = Some (rule.beside_null op)
between op Null Null = Some (Err Kind)
between op x y = None

abbrev pub list_of : Option (Vec Shape Global) → Option (List Shape)
list_of (Some v) = Some v.items
list_of None = None

abbrev pub one_more : Option (List Shape) → Option Shape → Option (List Shape)
one_more (Some ss) (Some s) = Some (ss ++ s ∷ [])
one_more ss s = None

-- the shape, and the least of what was found before and of the causes
abbrev pub seen : Bounds → Option TypeCause → Tree ℕ → Seen
seen b found t = record { shape = shape_of b t; found = told found (shape_causes b t) }

abbrev pub part_causes : Bounds → Bool → Tree ℕ → List TypeCause
part_causes b eq t = if eq && is_null t then [] else shape_causes b t

abbrev pub seen_part : Bounds → BinaryOperator → Option TypeCause → Tree ℕ → SeenPart
seen_part b op found t = record {
  operand = operand (is_equality op && is_null t) (shape_of b t);
  found = told found (part_causes b (is_equality op) t);
}

pub record AllSeen : Type 0 where
  pub shapes : Option (List Shape)
  pub found : Option TypeCause

abbrev pub all_of : SeenAll → AllSeen
all_of s = record { shapes = list_of s.shapes; found = s.found }

abbrev pub seen_all : Bounds → Option TypeCause → Trees ℕ → AllSeen
seen_all b found ts = record {
  shapes = shapes_of b false ts;
  found = told found (all_shape_causes b false ts);
}

-- a target or an order item
abbrev pub shown : Bounds → Grouping → Option TypeCause → Tree ℕ → Seen
shown b g found t = record { shape = shape_of b t; found = told found (shown_causes b g t) }

-- a filter or a group item
abbrev pub of_row : Bounds → Option TypeCause → Tree ℕ → Seen
of_row b found t = record { shape = shape_of b t; found = told found (row_causes b t) }
