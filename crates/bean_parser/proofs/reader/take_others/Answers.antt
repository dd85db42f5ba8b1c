use Rattle.bean_parser.proofs.TakingFacts.{taking_starts, taking_more, taking_ends}
use Rattle.bean_parser.proofs.reader.take_others.Goals as goal

pub loop-token-init : goal.loop-token-init
loop-token-init c = taking_starts c.args.lexer.now c.args.block.now.items

pub loop-token-preserved : goal.loop-token-preserved
loop-token-preserved c =
    taking_more _ _ c.loop-token.at c.next_past_column_one.new.lexer c.loop-token.block.items
    c.add_token.new.block.items c.in-Some.token c.loop-token.invariant c.in-Some.ensures.tokens
    c.in-Some.ensures.place c.in-Some.ensures.shorter c.in_ok-add_token.ensures

pub returns : goal.returns
returns c =
    taking_ends _ _ c.loop-token.at _ c.loop-token.block.items c.loop-token.invariant
    c.in_default.ensures.tokens.0 c.in_default.ensures.tokens.1
