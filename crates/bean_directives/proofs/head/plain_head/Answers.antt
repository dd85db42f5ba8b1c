use Rattle.std.proofs.Common.{[], subst}
use Rattle.bean_grammar.specs.Lexeme.{lexemes}
use Rattle.bean_directives.specs.Head.{IsHead, transaction_of}
use Rattle.bean_directives.proofs.PlainHeadFacts.{plain_head_is}
use Rattle.bean_directives.proofs.head.plain_head.Goals as goal

pub returns-in-None : goal.returns-in-None
returns-in-None c =
    rw (c.new.ensures, c.new-in-None.ensures)
    (subst (λ d. IsHead (lexemes c.args.line.now) d
    (transaction_of c.in_ok-flag.flag c.words-words.result.0 [])) c.in-Within.is
    (plain_head_is _ _ _ _ _ _ _ c.in_ok-found.ensures.read c.in_ok-flag.ensures.front
    c.words-words.ensures c.in-None.ensures.front))
