use Rattle.std.proofs.Common.{length, ◌++◌, ap, ◌∙◌, arith, length-append}
use Rattle.std.specs.Int.{w128}
use Rattle.std.proofs.lemmas.Int.{to_z-of_z}
use Rattle.number_texts.specs.Digits.{number_text}
use Rattle.cell_texts.proofs.OwnDecimals.{same_text}
use Rattle.cell_texts.proofs.Printable.{width_printable}
use Rattle.number_texts.proofs.PrintableFacts.{bounded, printable_number}
use Rattle.cell_texts.proofs.cells.push_exact.Goals as goal

pub returns-clause-text : goal.returns-clause-text
returns-clause-text c =
    c.in_ok-push_number.ensures
    ∙ ap (λ t. c.args.out.now.items ++ t)
    (same_text _ c.args.places c.own_decimals.result c.own_decimals.ensures)
    ∙ ap (λ n. c.args.out.now.items ++ number_text n c.args.places 0)
    (to_z-of_z w128 c.args.count c.ranges.count)

pub returns-clause-width : goal.returns-clause-width
returns-clause-width c =
    let text = number_text c.args.count c.args.places 0 in
    let wide =
    width_printable text
    (printable_number c.args.count c.args.places 0 (bounded c.args.count c.ranges.count)) in
    let long = ap length (returns-clause-text c) in
    let all = length-append c.args.out.now.items text in
    omega (arith, wide, long, all, c.len.ensures, c.len-start.ensures)
