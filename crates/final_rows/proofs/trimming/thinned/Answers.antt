use Rattle.std.proofs.Common.{ap, arith, length, subst, sym, ◌∙◌}
use Rattle.query_answer.specs.Rows.{ArePicked}
use Rattle.final_rows.specs.Enough.{stays}
use Rattle.final_rows.proofs.EnoughFacts.{all_numbers, thinned_numbers}
use Rattle.final_rows.proofs.NumberFacts.{all_picked, picked_filtered}
use Rattle.final_rows.proofs.trimming.thinned.Goals as goal
use Rattle.final_rows.proofs.trimming.thinned.Goals.{then-most-gt0, else-most-gt0}

pub returns-clause-picked : goal.returns-clause-picked
returns-clause-picked c =
    let o = c.args.output.now in
    let rows = c.args.rows.now in
    let n = length rows in
    let numbers = c.in_ok-numbers.numbers.items in
    let all = subst (ArePicked n) (sym c.in_ok-numbers.ensures) (all_picked rows) in
    elim c.if-most-gt0.branch [
      | then-most-gt0 w ↦ subst (ArePicked n)
          (sym (ap (λ v. v.items) w.numbers-is ∙ w.keep_before.ensures))
          (picked_filtered n (stays o rows c.args.most w.last_of-last.result.now) numbers all)
      | else-most-gt0 w ↦ subst (ArePicked n) (sym (ap (λ v. v.items) w.numbers-is)) all
    ]

pub returns-clause-enough : goal.returns-clause-enough
returns-clause-enough c =
    let o = c.args.output.now in
    let rows = c.args.rows.now in
    let many = c.requires.many in
    let numbers = c.in_ok-numbers.numbers.items in
    elim c.if-most-gt0.branch [
      | then-most-gt0 w ↦ thinned_numbers o c.args.most c.requires.enough rows
          w.last_of-last.result.now numbers c.if-most-gt0.numbers.items (omega (arith, many))
          c.in_ok-numbers.ensures w.last_of-last.ensures
          (ap (λ v. v.items) w.numbers-is ∙ w.keep_before.ensures)
      | else-most-gt0 w ↦ all_numbers o rows c.if-most-gt0.numbers.items
          (ap (λ v. v.items) w.numbers-is ∙ c.in_ok-numbers.ensures)
    ]
