use Rattle.std.proofs.Common.{◌≡◌, ◌+◌, ◌-◌, ◌++◌, replicate, ◌∙◌, arith}
use Rattle.cell_texts.specs.CellText.{clean_text}
use Rattle.cell_texts.specs.Width.{text_width}
use Rattle.cell_texts.proofs.cells.push_any_clean_left.Goals as goal

pub returns : goal.returns
returns c =
    let text = clean_text c.args.text.now in
    let own = c.in_ok-own.ensures in
    let spaces : c.in_ok-spaces_behind.field-0 ≡ c.args.width - text_width text + c.args.behind =
    omega (arith, c.in_ok-spaces_behind.ensures, own.width) in
    c.in_ok-push_padding.ensures ∙ (λ i. own.text i ++ replicate (spaces i) 32)
