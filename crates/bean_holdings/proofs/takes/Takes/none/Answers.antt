use Rattle.std.proofs.Common.{ap, subst, sym, ◌∙◌}
use Rattle.bean_holdings.specs.Holdings.{holding}
use Rattle.bean_holdings.specs.Inventories.{inventory_in}
use Rattle.bean_holdings.specs.LotsLeft.{signs_in}
use Rattle.bean_reductions.specs.After.{after}
use Rattle.bean_reductions.specs.Rest.{HasAllLeft}
use Rattle.bean_holdings.proofs.LotsLeftFacts as lots
use Rattle.bean_holdings.proofs.RestFacts as rests
use Rattle.bean_holdings.proofs.TakesFacts.{nothing_within}
use Rattle.bean_holdings.proofs.takes.Takes.none.Goals as goal

pub returns : goal.returns
returns c = λ h. record {
  nothing = c.requires;
  takes = c.new.ensures;
  within = nothing_within h;
  left = λ a. record {
    each = λ cur.
        c.new-2.ensures a cur (holding h a) ∙ sym (lots.all_left cur (holding h a))
        ∙ ap (λ es. signs_in cur (after (holding h a) es)) (sym (c.new.ensures a));
  };
  rests = λ a.
      subst (λ es. HasAllLeft (inventory_in c.new.result a) es (holding h a))
      (sym (c.new-3.ensures a (holding h a)))
      (rests.all_left (inventory_in c.new.result a) (holding h a));
}
