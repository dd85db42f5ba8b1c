use Rattle.std.proofs.Common.{length, subst, sym, take, ◌∙◌, ap}
use Rattle.std.proofs.lemmas.List.{take-map}
use Rattle.query_answer.proofs.SpanFacts.{apart_taken}
use Rattle.query_answer.specs.Spans.{LieApart, rows_in, values_in}
use Rattle.query_answer.proofs.rows.AnswerRows.truncate.Goals as goal

pub invariant_of-self : goal.invariant_of-self
invariant_of-self c =
    let vs = c.self.inside.values.items in
    subst (LieApart 0 (length vs)) (sym c.truncate.ensures.items)
    (apart_taken c.args.most 0 (length vs) c.self.inside.spans.items c.self.invariant)

pub returns : goal.returns
returns c =
    let vs = c.self.inside.values.items in
    ap (rows_in vs) c.truncate.ensures.items
    ∙ sym (take-map (values_in vs) c.args.most c.self.inside.spans.items)
    ∙ ap (take c.args.most) c.self.view_is
