use Rattle.std.proofs.Common.{◌≡◌, ◌-◌, ◌++◌, ◌∷◌, [], length, take, drop, ap, subst, ◌∙◌, arith}
use Rattle.std.proofs.Common.{length-drop, take-add}
use Rattle.std.proofs.lemmas.List.{take_all}
use Rattle.table_printer.specs.Layout.{trimmed}
use Rattle.table_printer.proofs.lines.end_line.Goals as goal

pub returns : goal.returns
returns c =
    let items = c.args.out.now.items in
    let start = c.args.start in
    let seen = c.deref.ensures.value in
    let whole =
    take_all (length c.deref.result.now - start) (drop start c.deref.result.now)
    (omega (arith, length-drop start c.deref.result.now)) ∙ ap (drop start) seen in
    let kept =
    subst (λ l. take c.trimmed_len-len.result l
    ≡ trimmed l) whole c.trimmed_len-len.ensures.trimmed in
    c.in_ok-push.ensures.items
    ∙ ap (λ l. l ++ 10 ∷ []) (c.truncate.ensures.items
    ∙ take-add start c.trimmed_len-len.result items ∙ ap (λ l. take start items ++ l) kept)
