use Rattle.std.proofs.Common.{ap, ◌∙◌, ◌+◌, drop}
use Rattle.std.specs.List.{prefix_len}
use Rattle.bql_lexer.specs.Token.{is_in_word}
use Rattle.byte_runs.proofs.RunFacts.{front_boundary}
use Rattle.bql_lexer.proofs.TokenFacts.{word_is_ascii}
use Rattle.bql_lexer.proofs.found.word.Goals as goal

pub cut-found-requires : goal.cut-found-requires
cut-found-requires c =
    front_boundary is_in_word word_is_ascii c.args.text.now _ c.utf8.text
    (c.end_of_run.ensures.run
    ∙ ap (λ bs. 0 + prefix_len is_in_word (drop 0 bs)) c.as_bytes.ensures.value)
