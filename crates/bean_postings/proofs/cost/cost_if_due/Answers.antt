use Rattle.std.proofs.Common.{true, false, sym, ◌∙◌}
use Rattle.bean_grammar.specs.Lexeme.{lexemes}
use Rattle.bean_postings.proofs.CostFacts.{lot_if_ok, total_if_ok, absent_cost, brace_there}
use Rattle.bean_postings.proofs.CostFacts.{no_brace_there}
use Rattle.bean_postings.proofs.cost.cost_if_due.Goals as goal

pub returns-then-is_some : goal.returns-then-is_some
returns-then-is_some c =
    let present =
    brace_there false (lexemes c.args.tokens.now) c.after_sign.result (λ x. lexemes x.now)
    (sym c.is_some.ensures ∙ c.if-is_some.true) c.after_sign.ensures.front in
    lot_if_ok _ c.cost_in.result (λ x. lexemes x.now) present c.cost_in.ensures

pub returns-then-is_some-2 : goal.returns-then-is_some-2
returns-then-is_some-2 c =
    let absent =
    no_brace_there false (lexemes c.args.tokens.now) c.after_sign.result (λ x. lexemes x.now)
    (sym c.is_some.ensures ∙ c.if-is_some.false) c.after_sign.ensures.front in
    let present =
    brace_there true (lexemes c.args.tokens.now) c.after_sign-2.result (λ x. lexemes x.now)
    (sym c.is_some-2.ensures ∙ c.if-is_some-2.true) c.after_sign-2.ensures.front in
    total_if_ok _ c.cost_in-then-is_some-2.result (λ x. lexemes x.now) absent present
    c.cost_in-then-is_some-2.ensures

pub returns : goal.returns
returns c =
    let lot =
    no_brace_there false (lexemes c.args.tokens.now) c.after_sign.result (λ x. lexemes x.now)
    (sym c.is_some.ensures ∙ c.if-is_some.false) c.after_sign.ensures.front in
    let total =
    no_brace_there true (lexemes c.args.tokens.now) c.after_sign-2.result (λ x. lexemes x.now)
    (sym c.is_some-2.ensures ∙ c.if-is_some-2.false) c.after_sign-2.ensures.front in
    absent_cost _ lot total
