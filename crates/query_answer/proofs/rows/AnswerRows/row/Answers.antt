use Rattle.std.proofs.Common.{◌≤◌, ◌<◌, length, subst, sym, ◌∙◌}
use Rattle.query_answer.proofs.SpanFacts.{lies_there}
use Rattle.query_answer.proofs.rows.AnswerRows.row.Goals as goal

pub within-requires-clause-up : goal.within-requires-clause-up
within-requires-clause-up c =
    let ss = c.self.inside.spans.items in
    (lies_there (length c.self.inside.values.items) ss c.args.number c.index.result.now
    (subst (λ n. c.args.number < n) (c.len.ensures ∙ c.self.inside.spans.ok.0)
    c.if-number-len.false) c.self.invariant c.index.ensures).ends

pub within-requires-clause-inside : goal.within-requires-clause-inside
within-requires-clause-inside c =
    let ss = c.self.inside.spans.items in
    subst (λ n. c.index.result.now.end ≤ n) (sym (c.as_slice.ensures.len ∙ c.self.inside.values.ok.0))
    (lies_there (length c.self.inside.values.items) ss c.args.number c.index.result.now
    (subst (λ n. c.args.number < n) (c.len.ensures ∙ c.self.inside.spans.ok.0)
    c.if-number-len.false) c.self.invariant c.index.ensures).within
