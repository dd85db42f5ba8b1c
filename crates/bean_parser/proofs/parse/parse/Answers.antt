use Rattle.std.proofs.Common.{subst}
use Rattle.bean_parser.specs.Gathered.{AddsNext}
use Rattle.bean_parser.proofs.BlockFacts.{if_ok}
use Rattle.bean_parser.proofs.ParsedFacts.{next_more, text_ends}
use Rattle.bean_parser.proofs.parse.parse.Goals as goal

pub loop-block-preserved : goal.loop-block-preserved
loop-block-preserved c =
    let before = c.loop-block.lexer in
    let after = c.add_next.new.lexer in
    let adds =
    subst (λ some. AddsNext some before c.loop-block.gathered after c.add_next.new.self)
    c.if-branch.true c.in_ok-add_next.ensures.added in
    next_more c.args.text.now before after c.loop-block.gathered c.add_next.new.self
    c.loop-block.invariant adds

pub returns : goal.returns
returns c =
    let ends =
    subst (λ some. AddsNext some c.loop-block.lexer c.loop-block.gathered c.add_next.new.lexer
    c.add_next.new.self) c.if-branch.false c.in_ok-add_next.ensures.added in
    if_ok _ _ _
    (λ p come. text_ends c.args.text.now c.loop-block.lexer c.loop-block.gathered p
    c.loop-block.invariant ends.0 (λ os h. come os (ends.1 os h))) c.parsed.ensures
