use Rattle.std.proofs.Common.{arith}
use Rattle.cell_texts.proofs.WideFacts.{clean_within}
use Rattle.cell_texts.proofs.widening.wider_by_text.Goals as goal

pub returns-then-text-width : goal.returns-then-text-width
returns-then-text-width c =
    let within = clean_within c.args.text.now c.utf8.text in
    omega (arith, within)
