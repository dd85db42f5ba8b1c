use Rattle.std.proofs.Common.{sym, ◌∙◌, subst}
use Rattle.bean_lexer.proofs.CurrencyFacts.{TrimsCurrency, trim_starts, bad_goes_on, good_end}
use Rattle.bean_lexer.proofs.CurrencyFacts.{trim_boundary}
use Rattle.bean_lexer.proofs.names.currency_len.Goals as goal

pub loop-len-init : goal.loop-len-init
loop-len-init c =
    subst (TrimsCurrency c.args.bytes.now) (sym c.currency_reach-len.ensures.reach)
    (trim_starts c.args.bytes.now c.requires.some c.requires.capital)

pub loop-len-preserved : goal.loop-len-preserved
loop-len-preserved c =
    bad_goes_on c.args.bytes.now c.loop-len.len (sym c.has_bad_end.ensures ∙ c.loop-len-test.true)
    c.loop-len.invariant

pub returns-clause-currency : goal.returns-clause-currency
returns-clause-currency c =
    good_end c.args.bytes.now c.loop-len.len c.requires.some c.requires.capital
    (sym c.has_bad_end.ensures ∙ c.loop-len-test.false) c.loop-len.invariant

pub returns-clause-boundary : goal.returns-clause-boundary
returns-clause-boundary c = trim_boundary c.args.bytes.now c.loop-len.len c.loop-len.invariant
