use Rattle.std.proofs.Common.{length}
use Rattle.bean_grammar.specs.Lexeme.{lexemes}
use Rattle.bean_grammar.proofs.MetadataFacts.{kept, InValues}
use Rattle.bean_grammar.proofs.entry.all_values.Given as goal

abbrev pub invariant-loop-found : goal.invariant-loop-found
invariant-loop-found l =
    InValues (lexemes l.tokens) (kept l.are_in_range l.values.items) (lexemes l.unread.tokens.now)

abbrev pub decreases-loop-found : goal.decreases-loop-found
decreases-loop-found l = length l.unread.tokens.now
