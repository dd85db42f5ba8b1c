use Rattle.std.proofs.Common.{length}
use Rattle.theory.specs.Form.{snoc}
use Rattle.theory.proofs.RowFacts.{InRow}
use Rattle.bql_grammar.specs.Expression.{behind_comma}
use Rattle.bql_grammar.proofs.ExpressionFacts.{rows}
use Rattle.bql_grammar.specs.Grammar.{target}
use Rattle.bql_grammar.specs.Read.{targets_of}
use Rattle.bql_grammar.proofs.reading.targets.Given as goal

abbrev pub invariant-loop-behind : goal.invariant-loop-behind
invariant-loop-behind l =
    InRow (rows (target l.text)) (behind_comma (target l.text)) snoc l.tokens
    (targets_of l.targets) l.rest

abbrev pub decreases-loop-behind : goal.decreases-loop-behind
decreases-loop-behind l = length l.rest
