use Rattle.std.proofs.Common.{◌++◌, get_or, length, take, sym, ap, ◌∙◌, arith, append_assoc}
use Rattle.std.proofs.lemmas.List.{take_all}
use Rattle.theory.specs.Joined.{gap_before}
use Rattle.theory.proofs.JoinedFacts.{joined_next}
use Rattle.cell_texts.specs.CellText.{between_members, clean_text, set_text}
use Rattle.cell_texts.proofs.cells.make_set.Goals as goal

pub loop-i-preserved : goal.loop-i-preserved
loop-i-preserved c =
    let set = c.args.set.now in
    let i = c.loop-i.i in
    let text = c.text-item.result in
    let many = ap length c.as_slice-text-items.ensures.texts in
    let gap = gap_before between_members i in
    c.in_ok-add_clean.ensures
    ∙ (λ k. c.in_ok-add_between.ensures k ++ clean_text (c.text.ensures k))
    ∙ ap (λ l. (l ++ gap) ++ clean_text text) c.loop-i.invariant
    ∙ append_assoc (set_text (take i set)) gap (clean_text text)
    ∙ sym (joined_next between_members clean_text set i text
    (omega (arith, many, c.loop-i-test.true))
    (c.text-item.is ∙ ap (λ texts. get_or texts i text) c.as_slice-text-items.ensures.texts))

pub returns : goal.returns
returns c =
    let many = ap length c.as_slice-text-items.ensures.texts in
    c.loop-i.invariant
    ∙ ap set_text
    (take_all c.loop-i.i c.args.set.now (omega (arith, many, c.loop-i-test.false)))
