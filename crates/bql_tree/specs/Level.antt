-- Operators, by the levels on which they bind.
use Rattle.std.specs.Prelude.{Bool, true, false, Option, Some, None}
use Rattle.bql_lexer.specs.declared.kind.Kind.{Kind}
use Rattle.bql_lexer.specs.declared.kind.Kind.TheVariants as kind
use Rattle.bql_tree.specs.declared.level.Level.{Level}
use Rattle.bql_tree.specs.declared.level.Level.TheVariants as level
use Rattle.bql_tree.specs.declared.tree.BinaryOperator.{BinaryOperator}
use Rattle.bql_tree.specs.declared.tree.BinaryOperator.TheVariants as binary

-- the operator of a level that a token is
abbrev pub operator_of : Level → Kind → Option BinaryOperator
operator_of level.Or kind.Or = Some binary.Or
operator_of level.And kind.And = Some binary.And
operator_of level.Sum kind.Plus = Some binary.Plus
operator_of level.Sum kind.Minus = Some binary.Minus
operator_of level.Product kind.Star = Some binary.Times
operator_of level kind = None

abbrev pub comparison_of : Kind → Option BinaryOperator
comparison_of kind.Equal = Some binary.Equal
comparison_of kind.NotEqual = Some binary.NotEqual
comparison_of kind.Less = Some binary.Less
comparison_of kind.LessOrEqual = Some binary.LessOrEqual
comparison_of kind.Greater = Some binary.Greater
comparison_of kind.GreaterOrEqual = Some binary.GreaterOrEqual
comparison_of kind = None

-- the sign in front of an expression: true where it is a minus
abbrev pub sign_of : Kind → Option Bool
sign_of kind.Minus = Some true
sign_of kind.Plus = Some false
sign_of kind = None
