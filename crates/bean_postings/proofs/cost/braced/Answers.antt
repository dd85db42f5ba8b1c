use Rattle.std.proofs.Common.{◌∷◌, ap, ◌∙◌, sym}
use Rattle.bean_grammar.specs.Lexeme.{Sign, lexemes, begins_with_sign}
use Rattle.bean_postings.proofs.CostFacts.{reads_empty_braces, reads_full_braces}
use Rattle.bean_postings.proofs.CostFacts.{no_parts_in_braces}
use Rattle.bean_postings.proofs.CostFacts.{not_shut, not_open}
use Rattle.bean_postings.proofs.cost.braced.Goals as goal

pub returns-in_err-rest-clause-read : goal.returns-in_err-rest-clause-read
returns-in_err-rest-clause-read c =
    rw c.from_residual.ensures
    (not_open _ _
    (ap (λ s. begins_with_sign s (lexemes c.args.tokens.now)) (sym c.opening.ensures)
    ∙ c.in_err-rest.ensures.front))

pub returns-in-Some-clause-read : goal.returns-in-Some-clause-read
returns-in-Some-clause-read c =
    rw c.none.ensures
    (reads_empty_braces _ _ _ _
    (c.in_ok-rest.ensures.front
    ∙ ap (λ s. Sign s ∷ lexemes c.in_ok-rest.rest.now) c.opening.ensures)
    (c.in-Some.ensures.front ∙ ap (λ s. Sign s ∷ lexemes c.in-Some.more.now) c.closing.ensures))

pub returns-in_err-parts-clause-read : goal.returns-in_err-parts-clause-read
returns-in_err-parts-clause-read c =
    let opened =
    c.in_ok-rest.ensures.front
    ∙ ap (λ s. Sign s ∷ lexemes c.in_ok-rest.rest.now) c.opening.ensures in
    let absent =
    ap (λ s. begins_with_sign s (lexemes c.in_ok-rest.rest.now)) (sym c.closing.ensures)
    ∙ c.in_default.ensures.front in
    rw c.from_residual-in_err-parts.ensures
    (no_parts_in_braces _ _ _ opened absent c.in_err-parts.ensures.read)

pub returns-in_err-more-clause-read : goal.returns-in_err-more-clause-read
returns-in_err-more-clause-read c =
    let opened =
    c.in_ok-rest.ensures.front
    ∙ ap (λ s. Sign s ∷ lexemes c.in_ok-rest.rest.now) c.opening.ensures in
    let absent =
    ap (λ s. begins_with_sign s (lexemes c.in_ok-rest.rest.now)) (sym c.closing.ensures)
    ∙ c.in_default.ensures.front in
    let unshut =
    ap (λ s. begins_with_sign s (lexemes c.in_ok-parts.rest.now)) (sym c.closing-2.ensures)
    ∙ c.in_err-more.ensures.front in
    rw c.from_residual-in_err-more.ensures
    (not_shut _ _ _ _ _ opened absent c.in_ok-parts.ensures.read unshut)

pub returns-clause-read : goal.returns-clause-read
returns-clause-read c =
    let opened =
    c.in_ok-rest.ensures.front
    ∙ ap (λ s. Sign s ∷ lexemes c.in_ok-rest.rest.now) c.opening.ensures in
    let absent =
    ap (λ s. begins_with_sign s (lexemes c.in_ok-rest.rest.now)) (sym c.closing.ensures)
    ∙ c.in_default.ensures.front in
    reads_full_braces _ _ _ _ _ _ opened absent c.in_ok-parts.ensures.read
    (c.in_ok-more.ensures.front
    ∙ ap (λ s. Sign s ∷ lexemes c.in_ok-more.more.now) c.closing-2.ensures)
