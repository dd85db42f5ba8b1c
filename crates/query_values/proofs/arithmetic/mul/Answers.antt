use Rattle.std.proofs.Common.{◌≡◌, ◌+◌, ◌∙◌, ap, ap₂, sym, arith, to_z, of_z}
use Rattle.std.specs.Int.{w128}
use Rattle.std.proofs.lemmas.Int.{ints}
use Rattle.query_values.specs.Arithmetic.{product_of}
use Rattle.query_values.specs.declared.value.Value.TheVariants.{Number}
use Rattle.query_values.proofs.OperandFacts.{product_in_range, product_fits, product_exact}
use Rattle.query_values.proofs.OperandFacts.{no_product_left, no_product_right}
use Rattle.query_values.proofs.arithmetic.mul.Goals.{in_default-via-in-Number+in_default, in_default-via-in_default}
use Rattle.query_values.proofs.arithmetic.mul.Goals as goal

pub overflow_add-result : goal.overflow_add-result
overflow_add-result c =
    let w = c.in-Number-Number in
    omega (arith, (product_in_range w.is-0 w.is-1 c.requires).0)

pub overflow_mul-result : goal.overflow_mul-result
overflow_mul-result c =
    let w = c.in-Number-Number in
    let m : to_z w128 (of_z w128 w.m) ≡ w.m = omega (arith, ints) in
    let n : to_z w128 (of_z w128 w.n) ≡ w.n = omega (arith, ints) in
    product_fits m n (product_in_range w.is-0 w.is-1 c.requires).1

pub returns-in-Number-Number : goal.returns-in-Number-Number
returns-in-Number-Number c =
    let w = c.in-Number-Number in
    let m : to_z w128 (of_z w128 w.m) ≡ w.m = omega (arith, ints) in
    let n : to_z w128 (of_z w128 w.n) ≡ w.n = omega (arith, ints) in
    ap (Number (w.p + w.q)) (product_exact m n (product_in_range w.is-0 w.is-1 c.requires).1)
    ∙ sym (ap₂ product_of w.is-0 w.is-1)

pub returns-in_default : goal.returns-in_default
returns-in_default c =
    elim c.in_default.branch [
      | in_default-via-in-Number+in_default w ↦
          no_product_right w.in_default.field-0-0 w.in_default.field-1-0 c.args.b.now
          w.in_default.not-Number-1
          ∙ ap (λ x. product_of x c.args.b.now) (sym w.in_default.is-0)
      | in_default-via-in_default w ↦
          no_product_left c.args.a.now c.args.b.now w.in_default.not-Number-0
    ]
