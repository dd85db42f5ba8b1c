use Rattle.bean_parser.proofs.TakingFacts.{inside_begins, inside_more}
use Rattle.bean_parser.proofs.reader.take_inside.Goals as goal

pub loop-token-init : goal.loop-token-init
loop-token-init c = inside_begins c.args.lexer.now c.args.block.now.items

pub loop-token-preserved : goal.loop-token-preserved
loop-token-preserved c =
    inside_more _ _ c.loop-token.at c.next_inside.new.lexer c.loop-token.block.items
    c.add_token.new.block.items c.in-Some.token c.loop-token.invariant c.in-Some.ensures.tokens
    c.in-Some.ensures.place c.in-Some.ensures.shorter c.in_ok-add_token.ensures
