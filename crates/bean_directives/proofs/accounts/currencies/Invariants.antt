use Rattle.std.proofs.Common.{◌≡◌, true, length}
use Rattle.theory.specs.Form.{behind, word, snoc}
use Rattle.theory.proofs.RowFacts.{InRow}
use Rattle.bean_lexer.specs.declared.kind.Sign.TheVariants as sign
use Rattle.bean_grammar.specs.Lexeme.{lexemes, Sign, Currency, begins_with_currency}
use Rattle.bean_directives.specs.Head.{some_currencies}
use Rattle.bean_directives.proofs.accounts.currencies.Given as goal

abbrev pub invariant-loop-after : goal.invariant-loop-after
invariant-loop-after l =
    (begins_with_currency (lexemes l.tokens) ≡ true)
    × InRow some_currencies (behind (Sign sign.Comma) (word Currency)) snoc (lexemes l.tokens)
    l.currencies.items (lexemes l.rest.tokens.now)

abbrev pub decreases-loop-after : goal.decreases-loop-after
decreases-loop-after l = length l.rest.tokens.now
