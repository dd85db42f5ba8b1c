use Rattle.std.proofs.Common.{◌≡◌, ◌+◌, ◌-◌, ◌++◌, replicate, ap, sym, ◌∙◌, arith, false}
use Rattle.number_texts.specs.Digits.{day_text}
use Rattle.cell_texts.specs.Cell.{value_of}
use Rattle.cell_texts.specs.CellText.{cell_text, clean_text}
use Rattle.cell_texts.specs.Width.{filled, text_width}
use Rattle.cell_texts.proofs.Filled.{filled_left}
use Rattle.cell_texts.proofs.Written.{day_width}
use Rattle.cell_texts.proofs.cells.push_text_or_day.Goals as goal

pub returns-in_ok-push_clean_left-in-Text-clause-added : goal.returns-in_ok-push_clean_left-in-Text-clause-added
returns-in_ok-push_clean_left-in-Text-clause-added c = λ display.
    let out = c.args.out.now.items in
    let text = clean_text c.in-Text.text in
    c.in_ok-push_clean_left-in-Text.ensures
    ∙ ap (λ t. (out ++ clean_text t)
    ++ replicate (c.args.width - text_width (clean_text t) + c.args.behind) 32) c.text.ensures
    ∙ filled_left out text (text_width text) c.args.width c.args.behind
    ∙ ap (λ cell. (out ++ filled false c.args.width (text_width (cell_text display cell))
    (cell_text display cell)) ++ replicate c.args.behind 32)
    (sym (ap value_of c.in-Text.is) ∙ c.shown.ensures)

pub returns-in_ok-push-in-Day-clause-added : goal.returns-in_ok-push-in-Day-clause-added
returns-in_ok-push-in-Day-clause-added c = λ display.
    let out = c.args.out.now.items in
    let day = c.in-Day.day in
    let text = day_text day in
    let spaces : c.in_ok-spaces-in-Day.spaces ≡ c.args.width - text_width text + c.args.behind =
    omega (arith, c.in_ok-spaces-in-Day.ensures, day_width day) in
    c.in_ok-push-in-Day.ensures
    ∙ ap (λ n. (out ++ text) ++ replicate n 32) spaces
    ∙ filled_left out text (text_width text) c.args.width c.args.behind
    ∙ ap (λ cell. (out ++ filled false c.args.width (text_width (cell_text display cell))
    (cell_text display cell)) ++ replicate c.args.behind 32)
    (sym (ap value_of c.in-Day.is) ∙ c.shown.ensures)
