use Rattle.std.proofs.Common.{◌-◌, ◌++◌, length, replicate, take, drop, take-append-drop, ap, ◌∙◌, arith}
use Rattle.std.proofs.lemmas.List.{take-take}
use Rattle.number_texts.proofs.plain.push_some.Goals as goal

pub returns : goal.returns
returns g c =
    let bytes = c.args.bytes.now in
    let kept = length bytes - g.row.N in
    let ends = c.in-Some.ensures in
    c.in_ok-push_ends.ensures
    ∙ ap (λ l. (c.args.out.now.items ++ l) ++ replicate c.args.spaces 32)
    ((λ i. take kept (ends.first i) ++ ends.last i)
    ∙ ap (λ l. l ++ drop kept bytes) (take-take kept g.row.N bytes (omega (arith, ends.few)))
    ∙ take-append-drop kept bytes)
