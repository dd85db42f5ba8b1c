use Rattle.std.proofs.Common.{arith}
use Rattle.std.proofs.lemmas.Int.{ints}
use Rattle.bean_base.proofs.PowerFacts.{pow_pos}
use Rattle.query_rows.proofs.column_shapes.most_of.Goals as goal

pub overflow_sub-result : goal.overflow_sub-result
overflow_sub-result c =
    let some = pow_pos c.args.digits in
    let power = c.power_of_ten.ensures in
    let magnitude = c.unsigned_abs.ensures in
    grind (arith, ints, some, power, magnitude)
