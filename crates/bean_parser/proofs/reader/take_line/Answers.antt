use Rattle.std.proofs.Common.{◌++◌, ◌∷◌, [], ap, ◌∙◌}
use Rattle.bean_parser.proofs.TakingFacts.{line_taken}
use Rattle.bean_parser.proofs.reader.take_line.Goals as goal

pub returns : goal.returns
returns c =
    line_taken c.args.lexer.now c.first_token.new.lexer c.take_inside.new.lexer c.in-Some.first
    c.add_token.new.block.items c.take_inside.new.block.items c.in-Some.ensures.tokens
    c.in-Some.ensures.shorter
    (c.in_ok-add_token.ensures ∙ ap (λ xs. xs ++ c.in-Some.first ∷ []) c.clear.ensures.items)
    c.in_ok-take_inside.ensures
