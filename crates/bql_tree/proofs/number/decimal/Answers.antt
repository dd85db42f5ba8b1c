use Rattle.bql_tree.proofs.NumberFacts.{decimal_is}
use Rattle.bql_tree.proofs.number.decimal.Goals as goal

pub returns : goal.returns
returns c = decimal_is c.args.places c.args.count c.narrow.result c.signed.result c.new.result
    c.if-count-ge-COUNT_BOUND.false c.narrow.ensures c.signed.ensures c.new.ensures
