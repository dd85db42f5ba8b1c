use Rattle.std.proofs.Common.{ap, ◌∙◌, ◌+◌, drop}
use Rattle.std.specs.List.{prefix_len}
use Rattle.bql_lexer.specs.Token.{is_white}
use Rattle.byte_runs.proofs.RunFacts.{front_boundary}
use Rattle.bql_lexer.proofs.TokenFacts.{white_is_ascii}
use Rattle.bql_lexer.proofs.token.behind_white.Goals as goal

pub split_at-requires : goal.split_at-requires
split_at-requires c =
    front_boundary is_white white_is_ascii c.args.text.now _ c.utf8.text
    (c.end_of_run.ensures.run
    ∙ ap (λ bs. 0 + prefix_len is_white (drop 0 bs)) c.as_bytes.ensures.value)
