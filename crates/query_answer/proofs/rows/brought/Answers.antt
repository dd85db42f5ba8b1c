use Rattle.std.proofs.Common.{◌≡◌, ap, length, sym, ◌∙◌}
use Rattle.std.specs.Vec.{with_items}
use Rattle.std.proofs.lemmas.List.{with_items_is}
use Rattle.query_answer.specs.Spans.{rows_in}
use Rattle.query_answer.proofs.PlaceFacts.{become_so}
use Rattle.query_answer.proofs.rows.brought.Goals as goal

pub returns : goal.returns
returns c =
    let new = c.bring_all.new.values in
    let ss = c.args.spans.items in
    let kept : (with_items c.args.values new).items ≡ new =
    with_items_is c.args.values new
    (c.bring_all.ensures.lasts ∙ ap length c.deref_mut.ensures.value ∙ sym c.args.values.ok.0) in
    λ wanted long is.
    ap (λ l. rows_in l ss) kept
    ∙ become_so c.deref_mut.result.now c.args.values.items new c.as_slice-2.result.now ss
    c.deref_mut-2.result.now c.args.places.items c.deref_mut.ensures.value c.as_slice-2.ensures.value
    c.deref_mut-2.ensures.value c.bring_all.ensures.rows wanted long is
