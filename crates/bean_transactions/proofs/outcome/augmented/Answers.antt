use Rattle.std.proofs.Common.{◌≡◌, ◌∙◌, pos, false, to_z, of_z, arith, subst, sym}
use Rattle.std.specs.Int.{w128}
use Rattle.std.specs.Int.Signed.{lt_z}
use Rattle.std.proofs.lemmas.Int.{ints}
use Rattle.bean_transactions.specs.Lined.{IsLotOf}
use Rattle.bean_transactions.proofs.OutcomeFacts.{augmented_by}
use Rattle.bean_transactions.proofs.outcome.augmented.Goals as goal

pub returns : goal.returns
returns c =
    let n = c.in-Some.cost.number.count in
    let count : to_z w128 (of_z w128 n) ≡ n = omega (arith, ints) in
    augmented_by c.args.head c.args.parts.now c.args.parts.now.amount c.in-Some.cost
    c.args.posting.now.account _ c.args.units.now _ c.args.index c.args.posting.now.details.line _
    c.in-Some.is (subst (λ n. lt_z n (pos 0) ≡ false) count c.if-cost-lt0.false)
    (subst (IsLotOf c.args.head c.args.parts.now c.in-Some.cost) (sym c.in_ok-lot.ensures)
    c.lot_of.ensures)
    (c.lend.ensures ∙ c.account.ensures) c.lend-2.ensures
