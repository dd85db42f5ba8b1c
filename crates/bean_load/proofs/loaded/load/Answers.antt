use Rattle.bean_load.proofs.SmallFacts.{ordered_few, ordered_small}
use Rattle.bean_load.proofs.loaded.load.Goals as goal

pub new-requires-clause-small : goal.new-requires-clause-small
new-requires-clause-small c =
    ordered_small c.in_ok-read.read.directives.items c.order_directives.new.directives.items
    c.in_ok-order_directives.ensures c.in_ok-read.ensures.small

pub new-requires-clause-few : goal.new-requires-clause-few
new-requires-clause-few c =
    ordered_few c.in_ok-read.read.directives.items c.order_directives.new.directives.items
    c.in_ok-order_directives.ensures c.in_ok-read.ensures.few
