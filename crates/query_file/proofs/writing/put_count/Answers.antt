use Rattle.std.proofs.Common.{ap, ◌∙◌}
use Rattle.std.specs.Int.{w128, to_be_bytes, cast_unsigned}
use Rattle.std.proofs.lemmas.Int.{to_z-of_z}
use Rattle.query_code.specs.QueryFile.{count}
use Rattle.query_file.proofs.WrittenFacts.{appended}
use Rattle.query_file.proofs.writing.put_count.Goals as goal

pub returns : goal.returns
unfolding count
returns c =
    appended c.extend_from_slice.result _ c.args.out.now.items _ _ c.extend_from_slice.ensures.items
    (c.to_be_bytes-bytes.ensures
    ∙ ap (λ z. to_be_bytes w128 (cast_unsigned w128 z))
    (to_z-of_z w128 c.args.number c.ranges.number))
