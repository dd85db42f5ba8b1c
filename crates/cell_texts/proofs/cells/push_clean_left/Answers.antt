use Rattle.std.proofs.Common.{◌≡◌, ◌+◌, ◌-◌, ◌++◌, cond, replicate, ap, sym, ◌∙◌, arith}
use Rattle.cell_texts.specs.CellText.{clean_text}
use Rattle.cell_texts.specs.Width.{text_width}
use Rattle.cell_texts.proofs.Printable.{clean_printable, clean_width_printable}
use Rattle.cell_texts.proofs.cells.push_clean_left.Goals as goal

pub returns-then-branch : goal.returns-then-branch
returns-then-branch c =
    let text = c.args.text.now in
    let out = c.args.out.now.items in
    let plain = c.in_ok-push_plain.ensures.plain c.if-branch.true in
    let spaces : c.in_ok-spaces.spaces ≡ c.args.width - text_width (clean_text text) + c.args.behind =
    omega (arith, c.in_ok-spaces.ensures, clean_width_printable text plain) in
    c.in_ok-push_plain.ensures.items
    ∙ ap (λ b. cond b ((out ++ text) ++ replicate c.in_ok-spaces.spaces 32) out) c.if-branch.true
    ∙ (λ i. (out ++ sym (clean_printable text plain) i) ++ replicate (spaces i) 32)
