use Rattle.std.proofs.Common.{◌++◌, ◌∷◌, [], ap, ap₂, length, subst, sym, ◌∙◌}
use Rattle.query_answer.proofs.SpanFacts.{apart_added, grown, not_fewer, rows_added}
use Rattle.query_answer.specs.Spans.{LieApart, between}
use Rattle.query_answer.proofs.rows.AnswerRows.add.Goals as goal

pub invariant_of-self-in_err-push : goal.invariant_of-self-in_err-push
invariant_of-self-in_err-push c =
    let vs = c.self.inside.values.items in
    let ws = c.append.new.self.items in
    let ss = c.self.inside.spans.items in
    subst (LieApart 0 (length ws)) (sym c.in_err-push.ensures.items)
    (grown 0 (length vs) (length ws) ss c.self.invariant
    (not_fewer vs c.args.row.now.items ws ss (ss ++ between vs ws ∷ [])
    c.in_ok-append.ensures.items (λ i. ss ++ between vs ws ∷ []) c.self.invariant))

pub invariant_of-self-2 : goal.invariant_of-self-2
invariant_of-self-2 c =
    let vs = c.self.inside.values.items in
    let ws = c.append.new.self.items in
    let ss = c.self.inside.spans.items in
    apart_added vs c.args.row.now.items ws ss c.push.new.self.items c.in_ok-append.ensures.items
    (c.in_ok-push.ensures.items
    ∙ ap₂ (λ a b. ss ++ record { start = a; end = b } ∷ [])
    (c.len-start.ensures ∙ c.self.inside.values.ok.0)
    (c.len-end.ensures ∙ c.append.new.self.ok.0)) c.self.invariant

pub returns-clause-added : goal.returns-clause-added
returns-clause-added c =
    let vs = c.self.inside.values.items in
    let ws = c.append.new.self.items in
    let ss = c.self.inside.spans.items in
    rows_added vs c.args.row.now.items ws ss c.push.new.self.items c.in_ok-append.ensures.items
    (c.in_ok-push.ensures.items
    ∙ ap₂ (λ a b. ss ++ record { start = a; end = b } ∷ [])
    (c.len-start.ensures ∙ c.self.inside.values.ok.0)
    (c.len-end.ensures ∙ c.append.new.self.ok.0)) c.self.invariant
    ∙ ap (λ l. l ++ c.args.row.now.items ∷ []) c.self.view_is
