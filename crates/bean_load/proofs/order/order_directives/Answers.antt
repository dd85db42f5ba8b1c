use Rattle.std.proofs.Common.{◌≡◌, rules}
use Rattle.std.proofs.lemmas.List.Sorted.{answers_always}
use Rattle.std.proofs.lemmas.Result.{on_ok_weaker}
use Rattle.bean_load.specs.Order.{turn_of}
use Rattle.bean_load.proofs.OrderFacts.{come_back, in_order_by_turns}
use Rattle.bean_load.proofs.order.order_directives.Goals as goal

pub returns : goal.returns
returns c =
    let items = c.args.directives.now.items in
    let lent = c.order_by_codes.new.directives in
    let same : lent ≡ items = search rules in
    on_ok_weaker c.sort_by_cached_key.result
    (λ sorted. in_order_by_turns _ _ items
    (sorted turn_of (answers_always _ _ _ (λ f a r g h. search rules)))
    (c.sort_by_cached_key.ensures.stable turn_of (answers_always _ _ _ (λ f a r g h. search rules)))
    (come_back items lent c.args.directives.now.len same (search rules))) c.sort_by_cached_key.ensures.sorted
