use Rattle.std.proofs.Common.{sym, subst}
use Rattle.std.proofs.lemmas.Option.{IfSome_then}
use Rattle.bean_grammar.specs.Lexeme.{lexemes}
use Rattle.bean_grammar.specs.declared.ranged.Ranged.TheVariants.{Within}
use Rattle.bean_postings.proofs.PlainFacts.{lone_account, small_posting}
use Rattle.bean_postings.specs.Posting as rule
use Rattle.bean_postings.proofs.posting_line.plain_posting.Goals as goal
use Rattle.theory.specs.Form.{Is}

pub returns-in_ok-number-in-None : goal.returns-in_ok-number-in-None
returns-in_ok-number-in-None c =
    IfSome_then c.of_small.result c.of_small.ensures
    (λ found is. subst (λ p. Is (rule.posting c.args.line) (lexemes c.args.tokens.now) (Within p))
    (sym is.3)
    (small_posting c.args.line _ _ _ c.in_ok-is_minus.is_minus c.in_ok-is_minus.written.now _ _ _ is.0 _ _ is.1 is.2 c.in_ok-number-in-None.ensures
    c.in_ok-account.ensures.front c.in_ok-is_minus.ensures.read c.in_ok-currency.ensures.front
    c.in-None.ensures.front))

pub returns-in_default : goal.returns-in_default
returns-in_default c =
    IfSome_then c.without_amount.result c.without_amount.ensures
    (λ found is. subst (λ p. Is (rule.posting c.args.line) (lexemes c.args.tokens.now) (Within p))
    (sym is)
    (lone_account c.args.line _ _ _ c.in_ok-account.ensures.front c.in_default.ensures.front))
