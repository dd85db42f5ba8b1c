use Rattle.std.proofs.Common.{length}
use Rattle.theory.specs.Form.{snoc}
use Rattle.theory.proofs.RowFacts.{InRow}
use Rattle.bql_tree.specs.Part.{parts_of}
use Rattle.bql_tree.specs.declared.function.Scope.TheVariants.{Postings}
use Rattle.bql_grammar.specs.Expression.{expression, behind_comma}
use Rattle.bql_grammar.proofs.ExpressionFacts.{rows}
use Rattle.bql_grammar.proofs.reading.items.Given as goal

abbrev pub invariant-loop-behind : goal.invariant-loop-behind
invariant-loop-behind l =
    InRow (rows (expression Postings)) (behind_comma (expression Postings)) snoc l.tokens
    (parts_of l.parts) l.rest

abbrev pub decreases-loop-behind : goal.decreases-loop-behind
decreases-loop-behind l = length l.rest
