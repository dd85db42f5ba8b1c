use Rattle.std.proofs.Common.{inl, sym, ◌∙◌}
use Rattle.bean_lexer.proofs.CodeFacts.{code_token, code_boundary}
use Rattle.bean_lexer.proofs.names.account_or_currency.Goals as goal

pub returns-then-is_code-clause-token : goal.returns-then-is_code-clause-token
returns-then-is_code-clause-token c =
    inl (code_token c.args.bytes.now (sym c.is_code.ensures ∙ c.if-is_code.true))

pub returns-then-is_code-clause-boundary : goal.returns-then-is_code-clause-boundary
returns-then-is_code-clause-boundary c =
    code_boundary c.args.bytes.now (sym c.is_code.ensures ∙ c.if-is_code.true)
