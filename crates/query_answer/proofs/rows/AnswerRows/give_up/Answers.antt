use Rattle.std.proofs.Common.{◌≡◌, ap, length, subst, sym, ◌∙◌}
use Rattle.std.specs.Vec.{with_items}
use Rattle.std.proofs.lemmas.List.{with_items_is}
use Rattle.query_answer.specs.Rows.{given_up}
use Rattle.query_answer.specs.Spans.{LieApart, rows_in}
use Rattle.query_answer.proofs.rows.AnswerRows.give_up.Goals as goal

pub clear_rows-requires : goal.clear_rows-requires
clear_rows-requires c =
    let vs = c.self.inside.values.items in
    subst (λ l. LieApart 0 (length l) c.deref.result.now) (sym c.deref_mut.ensures.value)
    (subst (LieApart 0 (length vs)) (sym c.deref.ensures.value) c.self.invariant)

pub invariant_of-self : goal.invariant_of-self
invariant_of-self c =
    let values = c.self.inside.values in
    let ws = c.clear_rows.new.values in
    let long = c.clear_rows.ensures.count ∙ ap length c.deref_mut.ensures.value in
    let kept : (with_items values ws).items ≡ ws = with_items_is values ws (long ∙ sym values.ok.0) in
    subst (λ n. LieApart 0 n c.self.inside.spans.items) (sym (ap length kept ∙ long)) c.self.invariant

pub returns : goal.returns
returns c =
    let values = c.self.inside.values in
    let ws = c.clear_rows.new.values in
    let ss = c.self.inside.spans.items in
    let first = c.args.first in
    let end = c.args.end in
    let long = c.clear_rows.ensures.count ∙ ap length c.deref_mut.ensures.value in
    let kept : (with_items values ws).items ≡ ws = with_items_is values ws (long ∙ sym values.ok.0) in
    ap (λ l. rows_in l ss) kept
    ∙ subst (λ l. rows_in ws l ≡ given_up first end (rows_in values.items l)) c.deref.ensures.value
    (c.clear_rows.ensures.rows
    ∙ ap (λ l. given_up first end (rows_in l c.deref.result.now)) c.deref_mut.ensures.value)
    ∙ ap (given_up first end) c.self.view_is
