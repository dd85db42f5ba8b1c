use Rattle.bean_holdings.proofs.RestFacts.{all_left, narrower, small_part}
use Rattle.bean_holdings.proofs.rests.without_last_gone.Goals as goal

pub loop-before-init : goal.loop-before-init
loop-before-init c = all_left c.args.taken.now c.args.rest

pub before_gone-requires-clause-rest : goal.before_gone-requires-clause-rest
before_gone-requires-clause-rest c =
    small_part c.args.taken.now c.loop-before.part c.args.rest c.loop-before.invariant
    c.requires.rest

pub loop-before-preserved : goal.loop-before-preserved
loop-before-preserved c =
    narrower c.args.taken.now c.in-Some.before c.loop-before.part c.args.rest
    c.in-Some.ensures.rest c.loop-before.invariant
