use Rattle.std.proofs.Common.{◌-◌, length, ap, sym, ◌∙◌, arith, subst}
use Rattle.query_code.specs.ByteForm.{all_written}
use Rattle.query_code.specs.QueryFile.{constant}
use Rattle.file_places.specs.Places.{IsPlace, from_filter, from_pool}
use Rattle.file_places.proofs.SuffixFacts.{has_room, left_behind, place_before, pool_ends, pool_length}
use Rattle.file_places.proofs.places.place_in_pool.Goals as goal

pub overflow_sub-result : goal.overflow_sub-result
overflow_sub-result c =
    let p = c.args.parts.now in
    let room = has_room c.args.bytes.now (from_pool p.code c.args.entry) (from_filter p.code 0) _
    c.place_in_filter-filter.result (pool_ends c.args.bytes.now p c.requires c.args.entry) (pool_length p.code c.args.entry)
    c.place_in_filter-filter.ensures in
    omega (arith, room)

pub pool_len-requires : goal.pool_len-requires
pool_len-requires c =
    let p = c.args.parts.now in
    let room = has_room c.args.bytes.now (from_pool p.code c.args.entry) (from_filter p.code 0) _
    c.place_in_filter-filter.result (pool_ends c.args.bytes.now p c.requires c.args.entry) (pool_length p.code c.args.entry)
    c.place_in_filter-filter.ensures in
    let back = left_behind p.code.pool _ c.split_at.result.1.now c.args.entry _ c.as_slice-entries.ensures
    c.split_at.ensures.back c.min.ensures in
    let same = ap (λ l. length (all_written constant l)) back in
    let range = c.place_in_filter-filter.type_inv in
    omega (arith, room, same, range)

pub overflow_sub-result-2 : goal.overflow_sub-result-2
overflow_sub-result-2 c =
    let p = c.args.parts.now in
    let room = has_room c.args.bytes.now (from_pool p.code c.args.entry) (from_filter p.code 0) _
    c.place_in_filter-filter.result (pool_ends c.args.bytes.now p c.requires c.args.entry) (pool_length p.code c.args.entry)
    c.place_in_filter-filter.ensures in
    let back = left_behind p.code.pool _ c.split_at.result.1.now c.args.entry _ c.as_slice-entries.ensures
    c.split_at.ensures.back c.min.ensures in
    let same = ap (λ l. length (all_written constant l)) back in
    let is = c.pool_len.ensures in
    omega (arith, room, same, is)

pub returns : goal.returns
returns c =
    let p = c.args.parts.now in
    let back = left_behind p.code.pool _ c.split_at.result.1.now c.args.entry _ c.as_slice-entries.ensures
    c.split_at.ensures.back c.min.ensures in
    let same = c.pool_len.ensures ∙ ap (λ l. length (all_written constant l)) back in
    subst (λ k. IsPlace c.args.bytes.now (from_pool p.code c.args.entry) (c.place_in_filter-filter.result - 2 - k)) (sym same)
    (place_before c.args.bytes.now (from_pool p.code c.args.entry) (from_filter p.code 0) _
    c.place_in_filter-filter.result (pool_ends c.args.bytes.now p c.requires c.args.entry) (pool_length p.code c.args.entry)
    c.place_in_filter-filter.ensures)
