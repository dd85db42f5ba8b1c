use Rattle.std.proofs.Common.{subst, sym}
use Rattle.bean_reductions.specs.Rest.{HasAllLeft}
use Rattle.bean_holdings.proofs.RestFacts.{narrower, small_part}
use Rattle.bean_holdings.proofs.rests.without_gone.Goals as goal

pub without_last_gone-part-requires-clause-rest : goal.without_last_gone-part-requires-clause-rest
without_last_gone-part-requires-clause-rest c =
    small_part c.args.taken.now c.without_first_gone-behind.result c.args.rest
    c.without_first_gone-behind.ensures c.requires.rest

pub returns : goal.returns
returns c =
    subst (λ es. HasAllLeft c.args.taken.now es c.args.rest) (sym c.trim.ensures)
    (narrower c.args.taken.now c.without_last_gone-part.result c.without_first_gone-behind.result
    c.args.rest c.without_last_gone-part.ensures c.without_first_gone-behind.ensures)
