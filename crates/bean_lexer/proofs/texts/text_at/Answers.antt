use Rattle.std.proofs.Common.{inl}
use Rattle.bean_lexer.proofs.TextFacts.{after_quote}
use Rattle.bean_lexer.proofs.PlainTextFacts.{plain_token, plain_feeds}
use Rattle.bean_lexer.proofs.texts.text_at.Goals as goal

pub returns-then-bytes-end-eq34-clause-token : goal.returns-then-bytes-end-eq34-clause-token
returns-then-bytes-end-eq34-clause-token c =
    inl (plain_token c.args.bytes.now c.end_of_run-end.result c.requires.some c.requires.quote
    c.end_of_run-end.ensures.run c.if-end-bytes.true c.if-bytes-end-eq34.true)

pub returns-then-bytes-end-eq34-clause-boundary : goal.returns-then-bytes-end-eq34-clause-boundary
returns-then-bytes-end-eq34-clause-boundary c =
    after_quote c.args.bytes.now c.end_of_run-end.result c.if-end-bytes.true
    c.if-bytes-end-eq34.true

pub returns-then-bytes-end-eq34-clause-feeds : goal.returns-then-bytes-end-eq34-clause-feeds
returns-then-bytes-end-eq34-clause-feeds c =
    plain_feeds c.args.bytes.now c.end_of_run-end.result c.requires.quote
    c.end_of_run-end.ensures.run c.if-bytes-end-eq34.true
