use Rattle.std.proofs.Common.{◌-◌, arith}
use Rattle.number_texts.proofs.OffFacts.{two_less, two_off}
use Rattle.number_texts.proofs.digits.two_taken_off.Goals as goal

pub returns-then-decimals-eq0-clause-same : goal.returns-then-decimals-eq0-clause-same
returns-then-decimals-eq0-clause-same c =
    let many = c.if-saturating_sub-ge2.true in
    let left = c.saturating_sub.ensures in
    two_off c.args.places c.args.decimals (c.args.places - 2) (omega (arith, many, left))
    c.if-decimals-eq0.true

pub returns-then-decimals-eq0-clause-small : goal.returns-then-decimals-eq0-clause-small
returns-then-decimals-eq0-clause-small c =
    let many = c.if-saturating_sub-ge2.true in
    let left = c.saturating_sub.ensures in
    two_less c.args.places c.args.decimals (c.args.places - 2) (omega (arith, many, left))
    c.if-decimals-eq0.true c.requires
