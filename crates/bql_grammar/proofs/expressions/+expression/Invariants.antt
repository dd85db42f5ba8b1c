use Rattle.std.proofs.Common.{◌+◌, ◌*◌, ◌<◌, ℕ, length}
use Rattle.theory.specs.Form.{snoc}
use Rattle.theory.proofs.RowFacts.{InRow}
use Rattle.bql_grammar.specs.Expression.{operand, chain_at, behind_comma}
use Rattle.bql_tree.specs.Part.{part_of, parts_of}
use Rattle.bql_tree.specs.declared.level.Level.{Level}
use Rattle.bql_tree.specs.declared.level.Level.TheVariants as level
use Rattle.bql_grammar.proofs.ExpressionFacts.{rows, links, another, joined}
use Rattle.bql_grammar.proofs.expressions.+expression.Given as goal

abbrev chain_rank : Level → ℕ
chain_rank level.Or = 12
chain_rank level.And = 10
chain_rank level.Sum = 6
chain_rank level.Product = 4

abbrev operand_rank : Level → ℕ
operand_rank level.Or = 11
operand_rank level.And = 9
operand_rank level.Sum = 5
operand_rank level.Product = 3

abbrev pub decreases-atom : goal.decreases-atom
decreases-atom l = 16 * l.room + 1

abbrev pub decreases-grouped : goal.decreases-grouped
decreases-grouped l = 16 * l.room

abbrev pub decreases-call : goal.decreases-call
decreases-call l = 16 * l.room

abbrev pub decreases-unary : goal.decreases-unary
decreases-unary l = 16 * l.room + 2

abbrev pub decreases-comparison : goal.decreases-comparison
decreases-comparison l = 16 * l.room + 7

abbrev pub decreases-negation : goal.decreases-negation
decreases-negation l = 16 * l.room + 8

abbrev pub decreases-operand : goal.decreases-operand
decreases-operand l = 16 * l.room + operand_rank l.level

abbrev pub decreases-chain : goal.decreases-chain
decreases-chain l = 16 * l.room + chain_rank l.level

abbrev pub decreases-arguments : goal.decreases-arguments
decreases-arguments l = 16 * l.room + 13

abbrev pub invariant-chain-loop-operator : goal.invariant-chain-loop-operator
invariant-chain-loop-operator l = record {
  shorter : length l.rest < length l.tokens;
  read : InRow (links l.level (operand l.level l.scope l.room))
      (another l.level (operand l.level l.scope l.room)) joined l.tokens (part_of l.value) l.rest;
}

abbrev pub decreases-chain-loop-operator : goal.decreases-chain-loop-operator
decreases-chain-loop-operator l = length l.rest

abbrev pub invariant-arguments-loop-behind : goal.invariant-arguments-loop-behind
invariant-arguments-loop-behind l = record {
  shorter : length l.rest < length l.tokens;
  read : InRow (rows (chain_at level.Or l.scope l.room))
      (behind_comma (chain_at level.Or l.scope l.room)) snoc l.tokens (parts_of l.parts) l.rest;
}

abbrev pub decreases-arguments-loop-behind : goal.decreases-arguments-loop-behind
decreases-arguments-loop-behind l = length l.rest
