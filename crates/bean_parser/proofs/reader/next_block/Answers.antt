use Rattle.std.proofs.Common.{subst}
use Rattle.bean_parser.specs.Taking.{TakesLine}
use Rattle.bean_parser.proofs.TakingFacts.{block_taken, block_shorter}
use Rattle.bean_parser.proofs.reader.next_block.Goals as goal

pub returns-clause-block : goal.returns-clause-block
returns-clause-block c =
    let line = c.take_line.new.block.items in
    let mid = c.take_line.new.lexer in
    let first =
    subst (λ some. TakesLine some c.args.lexer.now line mid) c.if-not-branch.false
    c.in_ok-take_line.ensures in
    block_taken c.args.lexer.now mid c.take_others.new.lexer line c.take_others.new.block.items first
    c.in_ok-take_others.ensures

pub returns-clause-shorter : goal.returns-clause-shorter
returns-clause-shorter c = λ _.
    let line = c.take_line.new.block.items in
    let mid = c.take_line.new.lexer in
    let first =
    subst (λ some. TakesLine some c.args.lexer.now line mid) c.if-not-branch.false
    c.in_ok-take_line.ensures in
    block_shorter c.args.lexer.now mid c.take_others.new.lexer line c.take_others.new.block.items first
    c.in_ok-take_others.ensures
