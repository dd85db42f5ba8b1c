use Rattle.std.proofs.Common.{List, ◌++◌, length}
use Rattle.bean_lexer.specs.Tokens.{AreTokens}
use Rattle.bean_lexer.specs.ToCome.{ToCome}
use Rattle.bean_lexer.specs.declared.token.Token.{Token}
use Rattle.bean_lexer.proofs.token_list.tokens.Given as goal

abbrev pub invariant-loop-token : goal.invariant-loop-token
invariant-loop-token g l = (ts : List Token) → ToCome l.lexer ts
    → AreTokens l.text (l.out.items ++ ts)

abbrev pub decreases-loop-token : goal.decreases-loop-token
decreases-loop-token g l = length l.lexer.rest.now
