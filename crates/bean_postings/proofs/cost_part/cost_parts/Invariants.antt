use Rattle.std.proofs.Common.{Some, ◌≤◌, length}
use Rattle.bean_grammar.specs.Lexeme.{lexemes}
use Rattle.bean_postings.proofs.CostPartFacts.{InParts}
use Rattle.bean_postings.proofs.cost_part.cost_parts.Given as goal

abbrev pub invariant-loop-after : goal.invariant-loop-after
invariant-loop-after l = record {
  no_longer : length l.rest ≤ length l.tokens;
  read : InParts (lexemes l.tokens) (Some l.parts) (lexemes l.rest);
}

abbrev pub decreases-loop-after : goal.decreases-loop-after
decreases-loop-after l = length l.rest
