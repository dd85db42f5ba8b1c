use Rattle.std.proofs.Common.{sym, ◌∙◌}
use Rattle.bean_base.proofs.DayFacts.{same_day_Decides}
use Rattle.bean_inventories.proofs.inventory.costs.told_on.Goals as goal

pub returns-then-is_of-clause-own : goal.returns-then-is_of-clause-own
returns-then-is_of-clause-own c = (
  sym ((same_day_Decides c.args.day c.args.lot.now.day).0
      (sym c.is_of.ensures ∙ c.if-is_of.true)),
  c.requires,
)
