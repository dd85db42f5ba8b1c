use Rattle.std.proofs.Common.{sym, subst}
use Rattle.theory.specs.Form.{behind, word, snoc}
use Rattle.theory.proofs.RowFacts.{InRow}
use Rattle.bean_lexer.specs.declared.kind.Sign.TheVariants as sign
use Rattle.bean_grammar.specs.Lexeme.{lexemes, Sign, Currency}
use Rattle.bean_directives.specs.Head.{some_currencies}
use Rattle.bean_directives.proofs.HeadFacts.{currencies_begin, currency_more, currencies_end}
use Rattle.bean_directives.proofs.HeadFacts.{no_currency}
use Rattle.bean_directives.proofs.accounts.currencies.Goals as goal

pub loop-after-init : goal.loop-after-init
loop-after-init c =
    currencies_begin _ _ _ _ _ c.in-Some.ensures.front c.new-currencies.ensures.items
    c.in_ok-push.ensures.items

pub returns-in_default-after_currency : goal.returns-in_default-after_currency
returns-in_default-after_currency c =
    no_currency _ _ _ _ c.loop-after.invariant.0 c.loop-after.invariant.1
    c.in-Some-after_sign.ensures.front c.in_default-after_currency.ensures.front

pub loop-after-preserved : goal.loop-after-preserved
loop-after-preserved c = (
  c.loop-after.invariant.0,
  subst (λ cs. InRow some_currencies (behind (Sign sign.Comma) (word Currency)) snoc
      (lexemes c.args.tokens.now) cs (lexemes c.in-Some-after_currency.found.1.now))
      (sym c.in_ok-push-2.ensures.items)
      (currency_more _ _ _ _ _ _ c.loop-after.invariant.1 c.in-Some-after_sign.ensures.front
      c.in-Some-after_currency.ensures.front),
)

pub returns : goal.returns
returns c =
    rw c.new-2.ensures
    (currencies_end _ _ _ c.loop-after.invariant.0 c.loop-after.invariant.1
    c.in_default-after_sign.ensures.front)
