use Rattle.std.proofs.Common.{◌+◌, ◌∙◌, ap, arith, length, refl, subst}
use Rattle.plain_machine.specs.Finishing.{ComesOut}
use Rattle.query_runs.specs.Stands.{rows_in}
use Rattle.query_machine.proofs.Ends.{rows_counted, run_of}
use Rattle.query_machine.proofs.advancing.answer_of.Goals as goal

pub overflow_add-groups : goal.overflow_add-groups
overflow_add-groups c =
    let few = rows_counted c.args.input.now.parts.now (rows_in c.args.input.now) c.args.standing
    c.requires.under_way in
    let long =
    c.len.ensures ∙ ap length c.into_rows-rows.ensures in
    omega (arith, few, long)

pub returns-clause-is : goal.returns-clause-is
returns-clause-is c =
    let p = c.args.input.now.parts.now in
    let run = c.args.standing.run in
    run_of p (rows_in c.args.input.now) c.args.standing c.requires.under_way _ c.requires.ended
    (c.new-headers.ensures ∙ c.in_ok-headers_of.ensures)
    (subst (λ rows. ComesOut p.output rows c.in_ok-rows.rows) c.into_rows-rows.ensures
    c.in_ok-rows.ensures) refl
    (ap (λ n. c.args.standing.dropped + n)
    (c.len.ensures ∙ ap length c.into_rows-rows.ensures))
