use Rattle.std.proofs.Common.{sym, ap, ◌∙◌}
use Rattle.bql_tree.specs.Cause.{both}
use Rattle.bql_parser.specs.View.{targets_of, filters_of, group_of, order_of}
use Rattle.bql_grammar.specs.Read as read
use Rattle.bql_parser.specs.Settled as settled
use Rattle.bql_parser.specs.Settled.{selected}
use Rattle.bql_parser.proofs.ParseFacts.{all_refused}
use Rattle.bql_parser.proofs.asking.select.Goals as goal

pub returns-in-Err : goal.returns-in-Err
returns-in-Err c =
    let reads = read.targets_of c.args.read.targets in
    all_refused targets_of filters_of group_of order_of (selected (read.select_of c.args.read))
    c.in_ok-targets.targets c.filters-filters.result c.in_ok-group.group c.in_ok-order.order
    (settled.targets reads) (settled.filters (read.filters_of c.args.read.filters))
    (settled.group reads (read.group_of c.args.read.group))
    (settled.order reads (read.order_of c.args.read.order)) c.in-Err.cause
    c.in_ok-targets.ensures c.filters-filters.ensures
    (c.in_ok-group.ensures
    ∙ ap (λ ts. settled.group (read.targets_in ts) (read.group_of c.args.read.group))
    c.as_slice.ensures.value)
    (c.in_ok-order.ensures
    ∙ ap (λ ts. settled.order (read.targets_in ts) (read.order_of c.args.read.order))
    c.as_slice-2.ensures.value)
    (ap (λ r. both (both r c.in_ok-group.group) c.in_ok-order.order) (sym c.both.ensures)
    ∙ ap (λ r. both r c.in_ok-order.order) (sym c.both-2.ensures)
    ∙ sym c.both-found.ensures ∙ c.in-Err.is)
