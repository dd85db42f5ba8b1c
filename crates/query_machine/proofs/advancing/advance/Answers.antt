use Rattle.std.proofs.Common.{rules, ◌≡◌, ◌+◌, ◌∙◌, arith, subst, sym, true}
use Rattle.plain_machine.specs.PlainMachine.{stand_after}
use Rattle.plain_machine.specs.WholeRun.{is_going}
use Rattle.query_runs.specs.Stands.{rows_in}
use Rattle.query_machine.proofs.Ends.{still_going}
use Rattle.query_machine.proofs.advancing.advance.Goals as goal
use Rattle.query_machine.proofs.advancing.advance.Goals.{then-loop-made-test+else-not-is_done, else-loop-made-test}

pub returns-clause-stands : goal.returns-clause-stands
returns-clause-stands c = λ inside.
    elim c.loop-made-test.branch [
      | then-loop-made-test+else-not-is_done w ↦ search (rules, w, inside)
      | else-loop-made-test w ↦
          let p = c.args.input.now.parts.now in
          let rows = rows_in c.args.input.now in
          let few = c.loop-made.invariant.few in
          let steps = c.loop-made.invariant.steps in
          let past = w.loop-made-test.false in
          let all : c.loop-made.standing.steps ≡ c.args.standing.now.steps + c.args.k =
          omega (arith, few, steps, past) in (
            all,
            subst (λ n. is_going (stand_after p rows n) ≡ true) all
                (still_going p rows c.loop-made.standing c.loop-made.invariant.under_way
                (sym c.is_done-2.ensures ∙ inside)),
          )
    ]
