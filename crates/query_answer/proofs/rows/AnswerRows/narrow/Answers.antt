use Rattle.std.proofs.Common.{ap, length, map, subst, sym, take, ◌∙◌}
use Rattle.std.proofs.lemmas.List.{length-map, with_items_is}
use Rattle.query_answer.proofs.SpanFacts.{apart_narrowed, rows_narrowed}
use Rattle.query_answer.specs.Spans.{LieApart, narrowed_to, rows_in}
use Rattle.query_answer.proofs.rows.AnswerRows.narrow.Goals as goal

pub invariant_of-self : goal.invariant_of-self
invariant_of-self c =
    let vs = c.self.inside.values.items in
    let ss = c.self.inside.spans.items in
    let f = narrowed_to c.args.width in
    let are = c.narrow_all.ensures ∙ ap (map f) c.deref_mut.ensures.value in
    subst (LieApart 0 (length vs))
    (sym (with_items_is c.self.inside.spans c.narrow_all.new.spans
    (ap length are ∙ length-map ss f ∙ sym c.self.inside.spans.ok.0) ∙ are))
    (apart_narrowed c.args.width 0 (length vs) ss c.self.invariant)

pub returns : goal.returns
returns c =
    let vs = c.self.inside.values.items in
    let ss = c.self.inside.spans.items in
    let f = narrowed_to c.args.width in
    let are = c.narrow_all.ensures ∙ ap (map f) c.deref_mut.ensures.value in
    ap (rows_in vs)
    (with_items_is c.self.inside.spans c.narrow_all.new.spans
    (ap length are ∙ length-map ss f ∙ sym c.self.inside.spans.ok.0) ∙ are)
    ∙ rows_narrowed vs c.args.width ss
    ∙ ap (map (take c.args.width)) c.self.view_is
