use Rattle.std.proofs.Common.{List, ◌++◌, ◌≤◌, length}
use Rattle.bql_lexer.specs.Tokens.{AreTokens, TokensFrom}
use Rattle.bql_lexer.specs.declared.token.Token.{Token}
use Rattle.bql_lexer.proofs.token.tokens.Given as goal

abbrev pub invariant-loop-token : goal.invariant-loop-token
invariant-loop-token g l = record {
  inside : length l.unread.text.now ≤ length l.text;
  so_far : (ts : List Token) → TokensFrom (length l.text) l.unread.text.now ts
      → AreTokens l.text (l.out.items ++ ts);
}

abbrev pub decreases-loop-token : goal.decreases-loop-token
decreases-loop-token g l = length l.unread.text.now
