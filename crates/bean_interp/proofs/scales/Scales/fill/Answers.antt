use Rattle.std.proofs.Common.{◌≡◌, ℕ, ℤ, Option, List, ap, ◌∙◌, refl, subst}
use Rattle.std.proofs.lemmas.Int.{to_z-of_z}
use Rattle.std.specs.Int.{w128}
use Rattle.bean_interp.specs.Due.{HasNoDue, IsDue}
use Rattle.bean_interp.specs.Residual.{Weighed, residual, weighed}
use Rattle.bean_interp.specs.Sums.{entry_of}
use Rattle.bean_interp.specs.Tolerance.{precision}
use Rattle.bean_interp.proofs.TableFacts.{entry_is}
use Rattle.bean_interp.proofs.CountFacts.{fits_38}
use Rattle.bean_interp.proofs.scales.Scales.fill.Goals as goal

pub returns-in-Ok : goal.returns-in-Ok
returns-in-Ok c = λ legs are.
    let currency = c.args.currency.now in
    let p : c.of.result ≡ precision legs currency = c.of.ensures.is ∙ are.noted.precisions currency in
    let r : c.of-2.result ≡ residual legs currency =
    c.of-2.ensures.sum ∙ ap (λ (es : List Weighed). entry_of es currency) are.weighed.sums
    ∙ entry_is (weighed legs) currency in
    let back = to_z-of_z w128 c.of-2.result (fits_38 c.of-2.result c.of-2.ensures.bound) in
    record {
      leg_is = refl;
      currency_is = c.lend.ensures;
      fills = subst (λ (o : Option ℕ). IsDue o (residual legs currency) c.in-Ok.number) p
          (subst (λ (z : ℤ). IsDue c.of.result z c.in-Ok.number) (back ∙ r) c.in-Ok.ensures);
    }

pub returns-in-Err : goal.returns-in-Err
returns-in-Err c = λ legs are.
    let currency = c.args.currency.now in
    let p : c.of.result ≡ precision legs currency = c.of.ensures.is ∙ are.noted.precisions currency in
    let r : c.of-2.result ≡ residual legs currency =
    c.of-2.ensures.sum ∙ ap (λ (es : List Weighed). entry_of es currency) are.weighed.sums
    ∙ entry_is (weighed legs) currency in
    let back = to_z-of_z w128 c.of-2.result (fits_38 c.of-2.result c.of-2.ensures.bound) in
    subst (λ (o : Option ℕ). HasNoDue o (residual legs currency)) p
    (subst (λ (z : ℤ). HasNoDue c.of.result z) (back ∙ r) c.in-Err.ensures)
