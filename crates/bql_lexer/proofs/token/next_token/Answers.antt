use Rattle.std.proofs.Common.{sym, ◌∙◌, arith}
use Rattle.bql_lexer.proofs.TokenFacts.{rest_is_shorter}
use Rattle.bql_lexer.proofs.token.next_token.Goals as goal

pub overflow_sub-token-2 : goal.overflow_sub-token-2
overflow_sub-token-2 c =
    let h = rest_is_shorter c.args.rest.now c.behind_white-behind.result.now c.text-rest.result.now
    c.token_at-found.result c.behind_white-behind.ensures
    (sym c.is_empty.ensures ∙ c.if-is_empty.false) c.token_at-found.ensures
    c.text-rest.ensures in
    omega (arith, c.requires, h)

pub returns-clause-shorter : goal.returns-clause-shorter
returns-clause-shorter c =
    rest_is_shorter c.args.rest.now c.behind_white-behind.result.now c.text-rest.result.now
    c.token_at-found.result c.behind_white-behind.ensures
    (sym c.is_empty.ensures ∙ c.if-is_empty.false) c.token_at-found.ensures c.text-rest.ensures
