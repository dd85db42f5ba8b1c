use Rattle.std.proofs.Common.{◌≡◌, ◌^◌, ◌∙◌, arith}
use Rattle.std.proofs.Math.Nat.{one-le-pow}
use Rattle.number_texts.proofs.DigitsFacts.{narrow}
use Rattle.number_texts.proofs.PowerFacts.{looked_up}
use Rattle.number_texts.proofs.digits.unit_of.Goals as goal

pub returns : goal.returns
returns c =
    let n = narrow c.args.places c.requires in
    let some = one-le-pow c.args.places 10 (omega arith) in
    let value : c.unsigned_abs.result ≡ 10 ^ c.args.places =
    c.unsigned_abs.ensures.value
    ∙ looked_up c.power_of_ten.result c.args.places c.requires c.power_of_ten.ensures in record {
      value = value;
      some = omega (arith, value, some);
      narrow = omega (arith, value, n);
    }
