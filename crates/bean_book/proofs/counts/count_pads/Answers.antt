use Rattle.std.proofs.Common.{◌+◌, ap, arith, get_or, length, length-append, take, ◌∙◌}
use Rattle.std.specs.List.{flat_map}
use Rattle.bean_book.specs.Rows.{rows_of_pad}
use Rattle.bean_book.specs.declared.details.Details.TheVariants.{All}
use Rattle.bean_book.proofs.ListFacts.{flat_map_more, length-flat_map-take}
use Rattle.bean_book.proofs.counts.count_pads.Goals as goal

pub returns-in-Err-clause-full : goal.returns-in-Err-clause-full
returns-in-Err-clause-full c = λ refused.
    let rows = rows_of_pad All in
    let pads = c.args.pads.now in
    let i = c.loop-noted.noted-index in
    let item = c.noted-item.result in
    let full = c.in-Err.ensures.full refused in
    let before = c.loop-noted.invariant.sum in
    let next =
    ap length (flat_map_more rows pads i item (omega arith))
    ∙ length-append (flat_map rows (take i pads)) (rows (get_or pads i item)) in
    let same = ap (λ n. length (rows n)) c.noted-item.is in
    omega (arith, full, before, next, same, length-flat_map-take rows pads (i + 1))
