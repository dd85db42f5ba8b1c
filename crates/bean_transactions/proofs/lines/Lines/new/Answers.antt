use Rattle.std.proofs.Common.{ap, subst, sym, arith}
use Rattle.bean_transactions.specs.Held.{takes_in}
use Rattle.bean_holdings.specs.Takes.{AreWithin}
use Rattle.bean_holdings.proofs.TakesFacts.{nothing_within}
use Rattle.bean_transactions.proofs.lines.Lines.new.Goals as goal

pub returns-clause-keeping : goal.returns-clause-keeping
returns-clause-keeping c = λ h. record {
  few = omega arith;
  noted = c.none.ensures h;
  within =
      subst (AreWithin h) (sym (ap takes_in c.new.ensures.items)) (nothing_within h);
}
