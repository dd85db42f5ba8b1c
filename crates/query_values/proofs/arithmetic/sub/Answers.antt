use Rattle.std.proofs.Common.{◌≡◌, ◌∙◌, ap, sym, arith, ◌-ℤ◌, to_z, of_z}
use Rattle.std.specs.Int.{w128}
use Rattle.std.proofs.lemmas.Int.{ints}
use Rattle.query_values.specs.Arithmetic.{difference_of}
use Rattle.query_values.specs.declared.value.Value.TheVariants.{Number}
use Rattle.query_values.proofs.OperandFacts.{difference_is, difference_in_range, no_difference_left, no_difference_right}
use Rattle.query_values.proofs.arithmetic.sub.Goals.{in_default-via-in-Number+in_default, in_default-via-in_default}
use Rattle.query_values.proofs.arithmetic.sub.Goals as goal

pub overflow_sub-result : goal.overflow_sub-result
overflow_sub-result c =
    let w = c.in-Number-Number in
    let range = difference_in_range w.is-0 w.is-1 c.requires.applies c.requires.held in
    omega (arith, ints, range)

pub returns-in-Number-Number : goal.returns-in-Number-Number
returns-in-Number-Number c =
    let w = c.in-Number-Number in
    let range = difference_in_range w.is-0 w.is-1 c.requires.applies c.requires.held in
    let exact :
    to_z w128 (of_z w128 (to_z w128 (of_z w128 w.m) -ℤ to_z w128 (of_z w128 w.n))) ≡ w.m -ℤ w.n =
    omega (arith, ints, range) in
    ap (Number w.places) exact ∙ sym (difference_is w.is-0 w.is-1 c.requires.applies)

pub returns-in_default : goal.returns-in_default
returns-in_default c =
    elim c.in_default.branch [
      | in_default-via-in-Number+in_default w ↦
          no_difference_right w.in_default.field-0-0 w.in_default.field-1-0 c.args.b.now
          w.in_default.not-Number-1
          ∙ ap (λ x. difference_of x c.args.b.now) (sym w.in_default.is-0)
      | in_default-via-in_default w ↦
          no_difference_left c.args.a.now c.args.b.now w.in_default.not-Number-0
    ]
