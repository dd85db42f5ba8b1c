use Rattle.std.proofs.Common.{◌≡◌, ◌∙◌, ap, subst, sym}
use Rattle.bean_postings.specs.declared.cost.Cost.TheVariants.{Lot}
use Rattle.bean_postings.specs.declared.details.DetailParts.{DetailParts}
use Rattle.bean_transactions.specs.Lined.{IsLinedByCost}
use Rattle.bean_transactions.specs.Outcome.{ComesOf}
use Rattle.bean_transactions.specs.Stock.{rest_of}
use Rattle.bean_transactions.proofs.outcome.outcome_by_cost.Goals as goal

pub returns-in-Lot : goal.returns-in-Lot
returns-in-Lot c =
    let p = c.args.posting.now in
    let cost : p.details.cost ≡ Lot c.get.result.now =
    ap (λ (e : DetailParts). e.cost) (sym c.in-Some.ensures) ∙ c.in-Lot.is
    ∙ ap Lot (sym c.get.ensures) in
    subst
    (λ cost. ComesOf (IsLinedByCost c.args.stock.method (rest_of c.args.stock) c.args.head p.account
    c.args.units.now cost c.args.index p.details.line) c.in_braces.result)
    (sym cost) c.in_braces.ensures
