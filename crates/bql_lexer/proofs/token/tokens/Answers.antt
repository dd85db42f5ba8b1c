use Rattle.std.proofs.Common.{[], subst}
use Rattle.std.proofs.lemmas.List.{append-nil}
use Rattle.bql_lexer.specs.Tokens.{AreTokens}
use Rattle.bql_lexer.proofs.token.tokens.Goals as goal

pub returns : goal.returns
returns g c =
    subst (AreTokens c.args.text.now) (append-nil c.loop-token.out.items)
    (c.loop-token.invariant.so_far [] c.in_default.ensures.tokens)
