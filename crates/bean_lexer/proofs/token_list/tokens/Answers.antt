use Rattle.std.proofs.Common.{[], subst}
use Rattle.std.proofs.lemmas.List.{append-nil}
use Rattle.bean_lexer.specs.Tokens.{AreTokens}
use Rattle.bean_lexer.proofs.token_list.tokens.Goals as goal

pub returns : goal.returns
returns g c =
    subst (AreTokens c.args.text.now) (append-nil c.loop-token.out.items)
    (c.loop-token.invariant [] c.in_default.ensures.tokens.0)
