use Rattle.std.proofs.Common.{length, ◌≤◌}
use Rattle.bean_grammar.specs.Lexeme.{lexemes}
use Rattle.bean_grammar.proofs.MarkFacts.{InMarks}
use Rattle.bean_grammar.proofs.mark.marks.Given as goal

abbrev pub invariant-loop-found : goal.invariant-loop-found
invariant-loop-found l = record {
  no_longer : length l.unread.tokens.now ≤ length l.tokens;
  read : InMarks (lexemes l.tokens) l.marks.items (lexemes l.unread.tokens.now);
}

abbrev pub decreases-loop-found : goal.decreases-loop-found
decreases-loop-found l = length l.unread.tokens.now
