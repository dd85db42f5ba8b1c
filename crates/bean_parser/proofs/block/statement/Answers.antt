use Rattle.std.proofs.Common.{sym, ◌∙◌, subst}
use Rattle.std.specs.Prelude.{MatchOption}
use Rattle.bean_grammar.specs.Lexeme.{lexemes}
use Rattle.bean_directives.specs.Head.{IsHead, IsNoHead}
use Rattle.bean_directives.proofs.HeadFacts.{when_some}
use Rattle.bean_parser.proofs.BlockFacts.{dated_is, undated_is_block, if_ok}
use Rattle.bean_parser.proofs.block.statement.Goals as goal

pub returns-in_ok-kept_line-in-Ok-Some : goal.returns-in_ok-kept_line-in-Ok-Some
returns-in_ok-kept_line-in-Ok-Some c =
    let column = sym c.is_in_column_one.ensures ∙ c.if-not-is_in_column_one.false in
    let is = when_some _ _ _ _ c.in-Ok-Some.field-0-is c.in-Ok-Some.ensures in
    if_ok _ _ _
    (λ o r. dated_is c.args.block.now c.in-Some.first.now c.in-Some.under.now _ _ _ o column
    c.in-Some.ensures.front c.in-Some.ensures.same_line is
    (c.in_ok-kept_line-in-Ok-Some.ensures ∙ c.first_line-line.ensures) r)
    c.dated_block.ensures

pub returns-in-Ok-None : goal.returns-in-Ok-None
returns-in-Ok-None c =
    let ls = lexemes c.in-Some.first.now in
    let column = sym c.is_in_column_one.ensures ∙ c.if-not-is_in_column_one.false in
    let none : IsNoHead ls =
    subst (λ o. MatchOption o (IsNoHead ls) (λ r. IsHead ls r.0 r.1)) c.in-Ok-None.field-0-is
    c.in-Ok-None.ensures in
    undated_is_block c.args.block.now c.in-Some.first.now c.in-Some.under.now _ _ column
    c.in-Some.ensures.front c.in-Some.ensures.same_line none c.first_line-line.ensures
    c.undated_block.ensures
