use Rattle.std.proofs.Common.{arith, ◌<◌, get_or}
use Rattle.std.proofs.lemmas.Str.{IsCharBoundary-after_ascii}
use Rattle.bean_grammar.proofs.TextFacts.{has_quotes}
use Rattle.bean_grammar.proofs.literal.between_quotes.Goals as goal

pub range-requires-clause-start_boundary : goal.range-requires-clause-start_boundary
range-requires-clause-start_boundary c = λ _.
    let quotes = has_quotes c.args.quoted.now c.requires in
    let first : get_or c.args.quoted.now 0 0 < 128 = omega (arith, quotes.1) in
    IsCharBoundary-after_ascii c.args.quoted.now 0 c.utf8.quoted (omega (arith, quotes.0)) first

pub range-requires-clause-end_boundary : goal.range-requires-clause-end_boundary
range-requires-clause-end_boundary c =
    let quotes = has_quotes c.args.quoted.now c.requires in
    (omega arith, λ inside past. absurd (omega (arith, quotes.2)))
