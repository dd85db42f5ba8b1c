use Rattle.std.proofs.Common.{◌≡◌, ◌∙◌, ap, nat_le}
use Rattle.std.proofs.lemmas.Int.{to_z-of_z}
use Rattle.std.specs.Int.{w128}
use Rattle.std.specs.Int.RustNames.{unsigned_abs}
use Rattle.bean_interp.specs.Filling.{currency_at}
use Rattle.bean_interp.specs.Residual.{residual}
use Rattle.bean_interp.specs.Tolerance.{half_unit, precision}
use Rattle.bean_interp.proofs.CountFacts.{fits_38}
use Rattle.bean_interp.proofs.FillingFacts.{currency_there}
use Rattle.bean_interp.proofs.scales.Scales.is_even_at.Goals as goal

pub returns : goal.returns
returns c = λ legs d are.
    let k = currency_at legs c.args.index d in
    let there = currency_there c.args.self.now.sums legs c.args.index d are.weighed.sums in
    let sum : c.at-sum.result.1 ≡ residual legs k =
    c.at-sum.ensures.sum (d, residual legs d) ∙ ap (λ e. e.1) there in
    let currency : c.at-sum.result.0.now ≡ k =
    c.at-sum.ensures.currency (d, residual legs d) ∙ ap (λ e. e.0) there in
    let size : c.unsigned_abs.result ≡ unsigned_abs (residual legs k) =
    c.unsigned_abs.ensures.value
    ∙ ap unsigned_abs
    (to_z-of_z w128 c.at-sum.result.1 (fits_38 c.at-sum.result.1 c.at-sum.ensures.bound)
    ∙ sum) in
    let half =
    c.half_unit.ensures
    ∙ ap half_unit (c.of.ensures.is ∙ are.noted.precisions c.at-sum.result.0.now
    ∙ ap (precision legs) currency) in
    λ i. nat_le (size i) (half i)
