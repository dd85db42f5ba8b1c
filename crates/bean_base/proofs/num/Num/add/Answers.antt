use Rattle.std.proofs.Common.{rules}
use Rattle.bean_base.proofs.PowerFacts.{sum_is, fits_20}
use Rattle.bean_base.proofs.num.Num.add.Goals as goal

pub returns : goal.returns
returns c =
    let x = c.scaled.result in
    let y = c.scaled-2.result in
    let e = sum_is x y (fits_20 x c.scaled.ensures.bound)
    (fits_20 y c.scaled-2.ensures.bound) (search rules) in
    let h = rw e at c.new.ensures in
    simp (c.scaled.ensures.value, c.scaled-2.ensures.value, c.max-places.ensures) at h
