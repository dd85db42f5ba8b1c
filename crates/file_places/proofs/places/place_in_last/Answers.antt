use Rattle.std.proofs.Common.{length, ap, arith}
use Rattle.query_code.specs.ByteForm.{all_written}
use Rattle.query_code.specs.InstructionForm.{instruction}
use Rattle.file_places.specs.Places.{from_last}
use Rattle.file_places.proofs.SuffixFacts.{is_place, last_ends, left_behind, shorter}
use Rattle.file_places.proofs.places.place_in_last.Goals as goal

pub code_len-requires : goal.code_len-requires
code_len-requires c =
    let p = c.args.parts.now in
    let most = shorter c.args.bytes.now (from_last p.code c.args.instruction)
    (last_ends c.args.bytes.now p c.requires c.args.instruction) in
    let back = left_behind p.code.last _ c.split_at.result.1.now c.args.instruction _
    c.as_slice-steps.ensures c.split_at.ensures.back c.min.ensures in
    let same = ap (λ l. length (all_written instruction l)) back in
    omega (arith, most, same)

pub overflow_sub-result : goal.overflow_sub-result
overflow_sub-result c =
    let p = c.args.parts.now in
    let most = shorter c.args.bytes.now (from_last p.code c.args.instruction)
    (last_ends c.args.bytes.now p c.requires c.args.instruction) in
    let back = left_behind p.code.last _ c.split_at.result.1.now c.args.instruction _
    c.as_slice-steps.ensures c.split_at.ensures.back c.min.ensures in
    let same = ap (λ l. length (all_written instruction l)) back in
    let is = c.code_len.ensures in
    omega (arith, most, same, is)

pub returns : goal.returns
returns c =
    let p = c.args.parts.now in
    let most = shorter c.args.bytes.now (from_last p.code c.args.instruction)
    (last_ends c.args.bytes.now p c.requires c.args.instruction) in
    let back = left_behind p.code.last _ c.split_at.result.1.now c.args.instruction _
    c.as_slice-steps.ensures c.split_at.ensures.back c.min.ensures in
    let same = ap (λ l. length (all_written instruction l)) back in
    let is = c.code_len.ensures in
    is_place c.args.bytes.now (from_last p.code c.args.instruction) _
    (last_ends c.args.bytes.now p c.requires c.args.instruction) (omega (arith, most, same, is))
