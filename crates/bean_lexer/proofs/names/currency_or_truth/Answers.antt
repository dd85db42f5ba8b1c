use Rattle.std.proofs.Common.{sym, ◌∙◌, inl}
use Rattle.bean_lexer.specs.declared.kind.Keyword.TheVariants.{True, False}
use Rattle.bean_lexer.proofs.CapitalFacts.{truth_token, currency_token}
use Rattle.bean_lexer.proofs.names.currency_or_truth.Goals as goal

pub returns-then-is_word-clause-token : goal.returns-then-is_word-clause-token
returns-then-is_word-clause-token c =
    inl (truth_token c.args.bytes.now c.currency_len-len.result True c.requires.capital
    c.requires.no_account c.currency_len-len.ensures.currency
    (sym c.is_word.ensures ∙ c.if-is_word.true))

pub returns-then-is_word-2-clause-token : goal.returns-then-is_word-2-clause-token
returns-then-is_word-2-clause-token c =
    inl (truth_token c.args.bytes.now c.currency_len-len.result False c.requires.capital
    c.requires.no_account c.currency_len-len.ensures.currency
    (sym c.is_word-else-is_word.ensures ∙ c.if-is_word-2.true))

pub returns-else-is_word-2-clause-token : goal.returns-else-is_word-2-clause-token
returns-else-is_word-2-clause-token c =
    inl (currency_token c.args.bytes.now c.currency_len-len.result c.requires.capital
    c.requires.no_account c.currency_len-len.ensures.currency
    (sym c.is_word.ensures ∙ c.if-is_word.false)
    (sym c.is_word-else-is_word.ensures ∙ c.if-is_word-2.false))
