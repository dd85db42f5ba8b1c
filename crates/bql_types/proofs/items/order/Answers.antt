use Rattle.bql_parser.specs.View.{item_of}
use Rattle.bql_types.specs.Keys.{grouping_of}
use Rattle.bql_types.specs.Typing.{order_item_causes}
use Rattle.bql_types.proofs.ItemFacts.{one_less}
use Rattle.bql_types.proofs.items.order.Goals as goal

pub loop-item-preserved : goal.loop-item-preserved
loop-item-preserved c = λ ts are.
    let l = c.loop-item in
    one_less (order_item_causes c.args.bounds.now (grouping_of c.args.grouping.now) ts) item_of
    c.args.items.now l.item-index c.item-item.result l.found c.in_ok-found.found _
    c.loop-item-test.true c.item-item.is (c.in_ok-found.ensures ts are) (l.invariant ts are)
