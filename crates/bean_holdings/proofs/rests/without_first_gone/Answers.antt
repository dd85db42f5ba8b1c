use Rattle.bean_holdings.proofs.RestFacts.{all_left, narrower, small_part}
use Rattle.bean_holdings.proofs.rests.without_first_gone.Goals as goal

pub loop-behind-init : goal.loop-behind-init
loop-behind-init c = all_left c.args.taken.now c.args.rest

pub behind_gone-requires-clause-rest : goal.behind_gone-requires-clause-rest
behind_gone-requires-clause-rest c =
    small_part c.args.taken.now c.loop-behind.part c.args.rest c.loop-behind.invariant
    c.requires.rest

pub loop-behind-preserved : goal.loop-behind-preserved
loop-behind-preserved c =
    narrower c.args.taken.now c.in-Some.behind c.loop-behind.part c.args.rest
    c.in-Some.ensures.rest c.loop-behind.invariant
