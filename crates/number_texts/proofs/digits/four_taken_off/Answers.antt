use Rattle.std.proofs.Common.{◌-◌, arith}
use Rattle.number_texts.proofs.OffFacts.{four_less, four_off}
use Rattle.number_texts.proofs.digits.four_taken_off.Goals as goal

pub returns-then-decimals-eq0-clause-same : goal.returns-then-decimals-eq0-clause-same
returns-then-decimals-eq0-clause-same c =
    let many = c.if-saturating_sub-ge4.true in
    let left = c.saturating_sub.ensures in
    four_off c.args.places c.args.decimals (c.args.places - 4) (omega (arith, many, left))
    c.if-decimals-eq0.true

pub returns-then-decimals-eq0-clause-small : goal.returns-then-decimals-eq0-clause-small
returns-then-decimals-eq0-clause-small c =
    let many = c.if-saturating_sub-ge4.true in
    let left = c.saturating_sub.ensures in
    four_less c.args.places c.args.decimals (c.args.places - 4) (omega (arith, many, left))
    c.if-decimals-eq0.true c.requires
