use Rattle.bean_lexer.proofs.NameFacts.{first_boundary}
use Rattle.bean_lexer.proofs.BoundaryFacts.{character_boundary}
use Rattle.bean_lexer.proofs.words.character_len.Goals as goal

pub returns-then-bytes-lt128-clause-boundary : goal.returns-then-bytes-lt128-clause-boundary
returns-then-bytes-lt128-clause-boundary c =
    first_boundary c.args.bytes.now c.requires c.if-bytes-lt128.true

pub returns-else-bytes-lt128-clause-boundary : goal.returns-else-bytes-lt128-clause-boundary
returns-else-bytes-lt128-clause-boundary c =
    λ utf8. character_boundary c.args.bytes.now c.end_of_run.result c.requires
    c.end_of_run.ensures.run
