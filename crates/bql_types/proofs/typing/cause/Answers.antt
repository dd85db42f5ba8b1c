use Rattle.std.proofs.Common.{◌≡◌, ap, ◌∙◌, subst, map, IfOk, None}
use Rattle.bql_parser.specs.Answer.{query_of}
use Rattle.bql_parser.specs.View.{target_of, item_of, group_of}
use Rattle.bql_types.specs.Cause.{told}
use Rattle.bql_types.specs.Keys as view
use Rattle.bql_types.specs.Named.{seen_of}
use Rattle.bql_types.specs.Typing.{each, target_causes, order_item_causes, grouping_by}
use Rattle.bql_types.proofs.ItemFacts.{select_found}
use Rattle.bql_types.proofs.typing.cause.Goals as goal

pub returns : goal.returns
returns c =
    let b = c.args.bounds.now in
    let s = c.args.query.now in
    let ts = map target_of s.targets.items in
    let g = view.grouping_of c.in_ok-grouping.grouping in
    let f2 = c.in_ok-found.found in
    let f3 = c.in_ok-found-2.found in
    let are = c.in_ok-seen.ensures.seen
    ∙ ap (λ z. map (seen_of b) (map target_of z)) c.as_slice-2.ensures.value in
    subst (λ z. IfOk c.order.result (λ r. r ≡ z))
    (ap (λ z. told f3 (each (order_item_causes b g ts) (map item_of z)))
    c.as_slice-items.ensures.value
    ∙ select_found b (query_of s) g c.in_ok-seen.seen.found f2 f3
    (c.in_ok-grouping.ensures
    ∙ ap (λ z. grouping_by (map target_of z) (group_of s.group)) c.as_slice.ensures.value)
    (c.in_ok-seen.ensures.found
    ∙ ap (λ z. told None (each (target_causes b g) (map target_of z))) c.as_slice-2.ensures.value)
    c.in_ok-found.ensures
    (c.in_ok-found-2.ensures ts (c.as_slice-3.ensures.value ∙ are)))
    (c.order.ensures ts (c.as_slice-4.ensures.value ∙ are))
