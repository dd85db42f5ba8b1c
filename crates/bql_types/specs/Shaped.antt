-- Which expressions have a shape, and what keeps the others from it.
use Rattle.std.specs.Prelude.{ℕ, Bool, true, false, ◌&&◌, List, [], ◌∷◌, ◌++◌, Option, Some, None}
use Rattle.std.specs.Prelude.{Ok, Err, if◌then◌else◌}
use Rattle.limits.specs.declared.bounds.Bounds.{Bounds}
use Rattle.bql_rules.specs.Rules.{leaf_shape, unary_shape, binary_shape, call_shape}
use Rattle.bql_tree.specs.Tree.{Operation, leaf_of, one_of, two_of, call_of, Tree, node, Trees}
use Rattle.bql_tree.specs.Tree.{no_trees, trees}
use Rattle.bql_tree.specs.declared.tree.BinaryOperator.{BinaryOperator}
use Rattle.bql_tree.specs.declared.tree.BinaryOperator.TheVariants as binary
use Rattle.bql_tree.specs.declared.tree.Leaf.TheVariants as leaf
use Rattle.query_rows.specs.Rules.{Ruled}
use Rattle.query_rows.specs.declared.shape.Misfit.{Misfit}
use Rattle.query_rows.specs.declared.shape.Misfit.TheVariants.{Kind, TooWide}
use Rattle.query_rows.specs.declared.shape.Shape.{Shape}
use Rattle.query_rows.specs.declared.shape.Shape.TheVariants.{Truth}
use Rattle.bql_types.specs.Cause.{cause_at}
use Rattle.bql_types.specs.declared.cause.TypeCause.{TypeCause}
use Rattle.bql_types.specs.declared.cause.TypeCauseKind.{TypeCauseKind}
use Rattle.bql_types.specs.declared.cause.TypeCauseKind.TheVariants as kind
use Rattle.bql_types.specs.declared.shaped.Operand.{Operand}
use Rattle.bql_types.specs.declared.shaped.Operand.TheVariants.{Null, Shaped, Shapeless}

abbrev pub is_null : Tree ℕ → Bool
is_null (node at (leaf_of leaf.Null) no_trees) = true
is_null t = false

abbrev pub is_equality : BinaryOperator → Bool
is_equality binary.Equal = true
is_equality binary.NotEqual = true
is_equality op = false

-- `=` or `!=`, of which one side may be NULL
abbrev pub is_equation : Operation → Bool
is_equation (two_of op) = is_equality op
is_equation op = false

-- beside a NULL stands any value
abbrev pub beside_null : BinaryOperator → Ruled
beside_null op = if is_equality op then Ok Truth else Err Kind

-- the shape that an operation gives over operands of these shapes, a NULL left out
abbrev pub rule : Bounds → Operation → List Shape → Ruled
rule b (leaf_of l) [] = leaf_shape b l
rule b (one_of op) (s ∷ []) = unary_shape op s
rule b (two_of op) (s ∷ t ∷ []) = binary_shape op s t
rule b (two_of op) (s ∷ []) = beside_null op
rule b (call_of f) ss = call_shape b f ss
rule b op ss = Err Kind

-- what is known of a part: a NULL that may stand there, its shape, or that it has none
abbrev pub operand : Bool → Option Shape → Operand
operand true s = Null
operand false (Some s) = Shaped s
operand false None = Shapeless

abbrev pub beside : Operand → Option (List Shape) → Option (List Shape)
beside Null ss = ss
beside (Shaped s) (Some ss) = Some (s ∷ ss)
beside (Shaped s) None = None
beside Shapeless ss = None

-- what the rule gives, where the parts have shapes
abbrev pub ruled : Bounds → Operation → Option (List Shape) → Option Ruled
ruled b op (Some ss) = Some (rule b op ss)
ruled b op None = None

abbrev pub given : Option Ruled → Option Shape
given (Some (Ok s)) = Some s
given r = None

-- the shape of an expression by its rule, if its parts have shapes and the rule gives one
abbrev mutual
  pub shape_of : Bounds → Tree ℕ → Option Shape
  shape_of b (node at op parts) = given (ruled b op (shapes_of b (is_equation op) parts))

  pub shapes_of : Bounds → Bool → Trees ℕ → Option (List Shape)
  shapes_of b eq no_trees = Some []
  shapes_of b eq (trees t ts) =
      beside (operand (eq && is_null t) (shape_of b t)) (shapes_of b eq ts)

abbrev pub kind_of : Misfit → TypeCauseKind
kind_of Kind = kind.KindClash
kind_of TooWide = kind.TooWide

abbrev pub misfit_at : ℕ → Option Ruled → List TypeCause
misfit_at at (Some (Err m)) = cause_at (kind_of m) at ∷ []
misfit_at at r = []

-- what is at fault in the parts, and what the rule refuses where these have shapes
abbrev mutual
  pub shape_causes : Bounds → Tree ℕ → List TypeCause
  shape_causes b (node at op parts) =
      all_shape_causes b (is_equation op) parts
      ++ misfit_at at (ruled b op (shapes_of b (is_equation op) parts))

  pub all_shape_causes : Bounds → Bool → Trees ℕ → List TypeCause
  all_shape_causes b eq no_trees = []
  all_shape_causes b eq (trees t ts) =
      (if eq && is_null t then [] else shape_causes b t) ++ all_shape_causes b eq ts
