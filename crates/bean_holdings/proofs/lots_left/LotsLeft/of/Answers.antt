use Rattle.std.proofs.Common.{unwrap_or, ap, ◌∙◌}
use Rattle.indexmap.specs.IndexMap.{get}
use Rattle.bean_holdings.specs.LotsLeft.{same_from, signs_in}
use Rattle.bean_holdings.proofs.LotsLeftFacts.{same_signs}
use Rattle.bean_holdings.proofs.lots_left.LotsLeft.of.Goals as goal

pub returns-in-None-clause-left : goal.returns-in-None-clause-left
returns-in-None-clause-left c =
    let all = signs_in c.args.currency.now c.args.held.now in
    same_signs c.signs_of-all.result all c.signs_of-all.ensures.long c.signs_of-all.ensures.short
    ∙ ap (λ o. unwrap_or o all)
    (c.in-None.ensures.value
    ∙ (λ i. get same_from c.args.self.now.signs
    (record { account = c.lend.ensures i; currency = c.lend-2.ensures i })))
