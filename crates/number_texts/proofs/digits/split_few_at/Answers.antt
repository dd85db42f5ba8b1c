use Rattle.std.proofs.Common.{◌%◌, ◌/◌, arith}
use Rattle.std.proofs.Math.Nat.{one-le-pow}
use Rattle.number_texts.proofs.PowerFacts.{looked_up}
use Rattle.number_texts.proofs.digits.split_few_at.Goals as goal

pub nonzero_div-result-in_default : goal.nonzero_div-result-in_default
nonzero_div-result-in_default c =
    let some = one-le-pow c.args.places 10 (omega arith) in
    let unit = looked_up c.power_of_ten-unit.result c.args.places (omega (arith, c.requires)) c.power_of_ten-unit.ensures
    in omega (arith, some, unit)

pub nonzero_rem-result-in_default : goal.nonzero_rem-result-in_default
nonzero_rem-result-in_default c =
    let some = one-le-pow c.args.places 10 (omega arith) in
    let unit = looked_up c.power_of_ten-unit.result c.args.places (omega (arith, c.requires)) c.power_of_ten-unit.ensures
    in omega (arith, some, unit)

pub returns-in_default : goal.returns-in_default
returns-in_default c =
    let unit = looked_up c.power_of_ten-unit.result c.args.places (omega (arith, c.requires)) c.power_of_ten-unit.ensures
    in record {
      before = λ i. c.args.number / unit i;
      behind = λ i. c.args.number % unit i;
    }
