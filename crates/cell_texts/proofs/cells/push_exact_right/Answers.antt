use Rattle.std.proofs.Common.{◌-◌, ◌++◌, replicate, sym, ap, ◌∙◌}
use Rattle.std.specs.Int.{w128}
use Rattle.std.proofs.lemmas.Int.{to_z-of_z}
use Rattle.number_texts.proofs.PrintableFacts.{bounded, printable_number}
use Rattle.number_texts.specs.Digits.{number_text, right_of}
use Rattle.cell_texts.proofs.OwnDecimals.{same_text}
use Rattle.cell_texts.proofs.Printable.{width_printable}
use Rattle.cell_texts.proofs.cells.push_exact_right.Goals as goal

pub returns : goal.returns
returns c =
    let count = c.args.count in
    let places = c.args.places in
    let width = c.args.width in
    let text = number_text count places 0 in
    let before = c.args.out.now.items in
    let behind = replicate c.args.behind 32 in
    let same = same_text _ places c.own_decimals-least.result c.own_decimals-least.ensures in
    let is = to_z-of_z w128 count c.ranges.count in
    let wide = width_printable text (printable_number count places 0 (bounded count c.ranges.count)) in
    c.in_ok-push_number_right.ensures ∙ ap (λ t. (before ++ right_of width t) ++ behind) same
    ∙ ap (λ n. (before ++ right_of width (number_text n places 0)) ++ behind) is
    ∙ ap (λ n. (before ++ (replicate (width - n) 32 ++ text)) ++ behind) (sym wide)
