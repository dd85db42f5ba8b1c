use Rattle.std.proofs.Common.{inl, sym, ◌∙◌}
use Rattle.bean_lexer.proofs.CodeFacts.{code_token, code_boundary}
use Rattle.bean_lexer.specs.declared.kind.Kind.TheVariants as kinds
use Rattle.expected_tokens.proofs.FoundFacts.{counted}
use Rattle.expected_tokens.proofs.expected.expected_currency.Goals as goal

pub on_one_line-requires-clause-token : goal.on_one_line-requires-clause-token
on_one_line-requires-clause-token c =
    inl (code_token c.args.bytes.now (sym c.is_code.ensures ∙ c.if-is_code.true))

pub returns-then-is_code-clause-found : goal.returns-then-is_code-clause-found
returns-then-is_code-clause-found c =
    let code = sym c.is_code.ensures ∙ c.if-is_code.true in
    counted c.args.bytes.now kinds.Currency 3 c.on_one_line.result
    (inl (code_token c.args.bytes.now code)) (code_boundary c.args.bytes.now code)
    c.on_one_line.ensures.same.0 c.on_one_line.ensures.same.1 c.on_one_line.ensures.feeds
