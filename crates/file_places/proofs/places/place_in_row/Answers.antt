use Rattle.std.proofs.Common.{◌-◌, length, ap, sym, ◌∙◌, arith, subst}
use Rattle.query_code.specs.ByteForm.{all_written}
use Rattle.query_code.specs.InstructionForm.{instruction}
use Rattle.file_places.specs.Places.{IsPlace, from_last, from_row}
use Rattle.file_places.proofs.SuffixFacts.{has_room, left_behind, place_before, row_ends, row_length}
use Rattle.file_places.proofs.places.place_in_row.Goals as goal

pub overflow_sub-result : goal.overflow_sub-result
overflow_sub-result c =
    let p = c.args.parts.now in
    let room = has_room c.args.bytes.now (from_row p.code c.args.instruction) (from_last p.code 0) _
    c.place_in_last-last.result (row_ends c.args.bytes.now p c.requires c.args.instruction) (row_length p.code c.args.instruction)
    c.place_in_last-last.ensures in
    omega (arith, room)

pub code_len-requires : goal.code_len-requires
code_len-requires c =
    let p = c.args.parts.now in
    let room = has_room c.args.bytes.now (from_row p.code c.args.instruction) (from_last p.code 0) _
    c.place_in_last-last.result (row_ends c.args.bytes.now p c.requires c.args.instruction) (row_length p.code c.args.instruction)
    c.place_in_last-last.ensures in
    let back = left_behind p.code.row _ c.split_at.result.1.now c.args.instruction _ c.as_slice-steps.ensures
    c.split_at.ensures.back c.min.ensures in
    let same = ap (λ l. length (all_written instruction l)) back in
    let range = c.place_in_last-last.type_inv in
    omega (arith, room, same, range)

pub overflow_sub-result-2 : goal.overflow_sub-result-2
overflow_sub-result-2 c =
    let p = c.args.parts.now in
    let room = has_room c.args.bytes.now (from_row p.code c.args.instruction) (from_last p.code 0) _
    c.place_in_last-last.result (row_ends c.args.bytes.now p c.requires c.args.instruction) (row_length p.code c.args.instruction)
    c.place_in_last-last.ensures in
    let back = left_behind p.code.row _ c.split_at.result.1.now c.args.instruction _ c.as_slice-steps.ensures
    c.split_at.ensures.back c.min.ensures in
    let same = ap (λ l. length (all_written instruction l)) back in
    let is = c.code_len.ensures in
    omega (arith, room, same, is)

pub returns : goal.returns
returns c =
    let p = c.args.parts.now in
    let back = left_behind p.code.row _ c.split_at.result.1.now c.args.instruction _ c.as_slice-steps.ensures
    c.split_at.ensures.back c.min.ensures in
    let same = c.code_len.ensures ∙ ap (λ l. length (all_written instruction l)) back in
    subst (λ k. IsPlace c.args.bytes.now (from_row p.code c.args.instruction) (c.place_in_last-last.result - 2 - k)) (sym same)
    (place_before c.args.bytes.now (from_row p.code c.args.instruction) (from_last p.code 0) _
    c.place_in_last-last.result (row_ends c.args.bytes.now p c.requires c.args.instruction) (row_length p.code c.args.instruction)
    c.place_in_last-last.ensures)
