use Rattle.std.proofs.Common.{rules, take, ap, ◌∙◌}
use Rattle.std.specs.Int.{from_le_bytes, w32}
use Rattle.byte_runs.proofs.NumberFacts.{by_number_4, small_front}
use Rattle.byte_runs.proofs.begin_with_same_four.Goals as goal

pub returns-in-Some-Some : goal.returns-in-Some-Some
returns-in-Some-Some c =
    by_number_4 (take 4 c.args.front.now) (take 4 c.args.part.now) c.from_le_bytes.result
    c.from_le_bytes-in-Some-Some.result (search rules) (search rules)
    (small_front 4 c.args.front.now (search rules))
    (small_front 4 c.args.part.now (search rules))
    (c.from_le_bytes.ensures ∙ ap (from_le_bytes w32) c.in-Some-Some.ensures.cases.same)
    (c.from_le_bytes-in-Some-Some.ensures ∙ ap (from_le_bytes w32) c.in-Some-Some.ensures'.cases.same)
