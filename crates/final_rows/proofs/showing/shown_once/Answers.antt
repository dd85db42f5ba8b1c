use Rattle.std.proofs.Common.{◌+◌, ap, arith, drop, drop_of_length-le, length, slice_index_or, take, ◌∙◌}
use Rattle.std.proofs.lemmas.List.{drop_more}
use Rattle.query_answer.specs.Rows.{row_at}
use Rattle.query_rows.specs.Same.{with_new}
use Rattle.final_rows.specs.Numbers.{numbers_with_new}
use Rattle.final_rows.proofs.ShownFacts.{noted, once_told}
use Rattle.final_rows.proofs.showing.shown_once.Goals as goal

pub loop-number-preserved : goal.loop-number-preserved
loop-number-preserved c =
    let rows = c.args.rows.now in
    let numbers = c.args.numbers.now in
    let i = c.loop-number.number-index in
    let n = slice_index_or numbers i 0 in
    let keys = c.loop-number.seen.keys in
    let once = c.loop-number.once.items in
    let shown = c.front-shown.ensures ∙ ap (take c.args.width) c.row.ensures in
    noted (λ n. take c.args.width (row_at rows n)) (length rows) numbers (drop i numbers) once
    (drop (i + 1) numbers) c.note.new.once.items keys c.note.new.seen.keys n
    c.loop-number.invariant (drop_more numbers i 0 c.loop-number-test.true)
    (c.in_ok-note.ensures.seen ∙ ap (with_new keys) shown)
    (c.in_ok-note.ensures.once ∙ ap (λ x. numbers_with_new keys x once n) shown)

pub returns-clause-shown : goal.returns-clause-shown
returns-clause-shown c =
    once_told c.args.rows.now c.args.width c.args.numbers.now
    (drop c.loop-number.number-index c.args.numbers.now) c.loop-number.once.items
    c.loop-number.seen.keys c.loop-number.invariant
    (drop_of_length-le c.args.numbers.now (let ended = c.loop-number-test.false in omega (arith, ended)))
