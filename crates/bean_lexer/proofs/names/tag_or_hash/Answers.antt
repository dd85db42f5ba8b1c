use Rattle.std.proofs.Common.{◌<◌, get_or, arith, inl}
use Rattle.bean_lexer.proofs.FirstByteFacts.{at_hash}
use Rattle.bean_lexer.proofs.NameFacts.{named, unnamed, named_boundary, first_boundary}
use Rattle.bean_lexer.proofs.WordFacts.{hash_token, no_sign_past}
use Rattle.bean_lexer.proofs.names.tag_or_hash.Goals as goal

pub returns-then-len-gt1-clause-token : goal.returns-then-len-gt1-clause-token
returns-then-len-gt1-clause-token c =
    let bs = c.args.bytes.now in
    let tag =
    named 35 bs c.end_of_run-len.result c.requires.some c.requires.hash
    c.end_of_run-len.ensures.run (omega arith) in
    inl (record {
      inside = tag.inside;
      of_kind = tag.of_form;
      longest =
          at_hash bs c.end_of_run-len.result c.requires.hash tag.longest
          (no_sign_past bs c.end_of_run-len.result c.requires.hash (omega arith));
    })

pub returns-then-len-gt1-clause-boundary : goal.returns-then-len-gt1-clause-boundary
returns-then-len-gt1-clause-boundary c =
    let ascii : get_or c.args.bytes.now 0 0 < 128 = omega (arith, c.requires.hash) in
    named_boundary c.args.bytes.now c.end_of_run-len.result c.requires.some ascii
    c.end_of_run-len.ensures.run

pub returns-else-len-gt1-clause-token : goal.returns-else-len-gt1-clause-token
returns-else-len-gt1-clause-token c =
    let bs = c.args.bytes.now in
    let none =
    unnamed 35 bs c.end_of_run-len.result c.requires.some c.requires.hash
    c.end_of_run-len.ensures.run (omega arith) in
    inl (hash_token bs c.requires.some c.requires.hash (λ m low high. none m high))

pub returns-else-len-gt1-clause-boundary : goal.returns-else-len-gt1-clause-boundary
returns-else-len-gt1-clause-boundary c =
    let ascii : get_or c.args.bytes.now 0 0 < 128 = omega (arith, c.requires.hash) in
    first_boundary c.args.bytes.now c.requires.some ascii
