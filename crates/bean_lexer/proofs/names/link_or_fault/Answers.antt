use Rattle.std.proofs.Common.{◌<◌, get_or, arith, inl, inr, refl}
use Rattle.std.proofs.lemmas.Bool.Decides.{nat_tests}
use Rattle.bean_lexer.proofs.FirstByteFacts.{at_caret}
use Rattle.bean_lexer.proofs.NameFacts.{named, unnamed, named_boundary, first_boundary}
use Rattle.bean_lexer.proofs.WordFacts.{ascii_reach}
use Rattle.bean_lexer.proofs.names.link_or_fault.Goals as goal

pub returns-then-len-gt1-clause-token : goal.returns-then-len-gt1-clause-token
returns-then-len-gt1-clause-token c =
    let bs = c.args.bytes.now in
    let link =
    named 94 bs c.end_of_run-len.result c.requires.some c.requires.caret
    c.end_of_run-len.ensures.run (omega arith) in
    inl (record {
      inside = link.inside;
      of_kind = link.of_form;
      longest =
          at_caret bs c.end_of_run-len.result c.requires.caret link.longest;
    })

pub returns-then-len-gt1-clause-boundary : goal.returns-then-len-gt1-clause-boundary
returns-then-len-gt1-clause-boundary c =
    let ascii : get_or c.args.bytes.now 0 0 < 128 = omega (arith, c.requires.caret) in
    named_boundary c.args.bytes.now c.end_of_run-len.result c.requires.some ascii
    c.end_of_run-len.ensures.run

pub returns-else-len-gt1-clause-token : goal.returns-else-len-gt1-clause-token
returns-else-len-gt1-clause-token c =
    let bs = c.args.bytes.now in
    let caret = c.requires.caret in
    let none =
    unnamed 94 bs c.end_of_run-len.result c.requires.some caret c.end_of_run-len.ensures.run
    (omega arith) in
    inr (record {
      is_fault = refl;
      none = at_caret bs 0 caret (λ m low high. none m high);
      reach = ascii_reach bs c.requires.some (grind (arith, nat_tests)) (grind (arith, nat_tests));
    })

pub returns-else-len-gt1-clause-boundary : goal.returns-else-len-gt1-clause-boundary
returns-else-len-gt1-clause-boundary c =
    let ascii : get_or c.args.bytes.now 0 0 < 128 = omega (arith, c.requires.caret) in
    first_boundary c.args.bytes.now c.requires.some ascii
