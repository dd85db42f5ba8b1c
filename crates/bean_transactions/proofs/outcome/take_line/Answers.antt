use Rattle.std.proofs.Common.{refl, ap, Some, ◌∙◌}
use Rattle.bean_transactions.proofs.outcome.take_line.Goals as goal

pub returns : goal.returns
returns c = (
  _,
  refl,
  record {
    account_is = c.lend-2.ensures;
    currency_is = c.lend-3.ensures;
    count_is = refl;
    places_are = refl;
    lot_is = ap Some (c.in_ok-lot.ensures ∙ c.lend.ensures);
    written_is = refl;
  },
)
