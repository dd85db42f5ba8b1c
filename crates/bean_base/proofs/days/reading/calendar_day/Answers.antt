use Rattle.std.proofs.Common.{arith, ap}
use Rattle.std.proofs.lemmas.Int.{ints}
use Rattle.bean_base.proofs.days.reading.calendar_day.Goals as goal

pub invariant_of-result : goal.invariant_of-result
invariant_of-result c =
    let same = ap (λ d. d.year) c.to_plain.ensures in
    let year = c.in-Ok.ensures.value.0 in
    record { after_christ = omega (arith, ints, same, year) }
