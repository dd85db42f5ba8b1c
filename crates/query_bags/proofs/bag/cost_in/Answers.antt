use Rattle.std.proofs.Common.{◌+ℤ◌, IsTrue, ap, ap₂, refl, subst, sym, ◌∙◌}
use Rattle.std.proofs.Common.{rules}
use Rattle.std.specs.Int.{w128}
use Rattle.std.specs.Int.RustNames.{FitsSigned}
use Rattle.std.proofs.lemmas.Int.{to_z-of_z}
use Rattle.bean_lots.specs.Inventory.{added, count_of, position_of}
use Rattle.query_holdings.specs.Total.{bare_key, at_cost, cost_count, cost_currency, is_count}
use Rattle.query_bags.proofs.SumFacts.{IsUpTo, one_more, none_yet, all, fits_sum}
use Rattle.query_bags.proofs.bag.cost_in.Goals as goal

pub loop-key-init : goal.loop-key-init
loop-key-init c =
    none_yet at_cost c.args.rest c.new-held.result c.args.rest
    c.new-held.ensures refl c.requires

pub count_at_cost-cost-requires : goal.count_at_cost-cost-requires
count_at_cost-cost-requires c =
    let e = position_of c.in-Some.key.now c.in-Some.count in
    let adds =
    one_more at_cost c.args.rest c.loop-key.held c.loop-key.rest c.next_held.new.self e
    c.in-Some.ensures.some c.loop-key.invariant in
    let fits : FitsSigned w128 e.count = search rules in
    subst (λ n. IsTrue (is_count (cost_count e.key.lot n))) (sym (to_z-of_z w128 e.count fits))
    adds.own

pub add-requires : goal.add-requires
add-requires c =
    let e = position_of c.in-Some.key.now c.in-Some.count in
    let held = c.loop-key.held in
    let adds =
    one_more at_cost c.args.rest held c.loop-key.rest c.next_held.new.self e
    c.in-Some.ensures.some c.loop-key.invariant in
    let fits : FitsSigned w128 e.count = search rules in
    let own : FitsSigned w128 c.count_at_cost-cost.result = search rules in
    let key = c.bare.ensures ∙ ap bare_key (c.new.ensures ∙ c.currency_at_cost.ensures) in
    let count =
    c.count_at_cost-cost.ensures ∙ ap (cost_count e.key.lot) (to_z-of_z w128 e.count fits) in
    let sum : IsTrue (is_count (count_of held c.bare.result +ℤ c.count_at_cost-cost.result)) =
    subst (λ k. IsTrue (is_count (count_of held k +ℤ c.count_at_cost-cost.result))) (sym key)
    (subst (λ n. IsTrue (is_count (count_of held (bare_key (cost_currency e.key)) +ℤ n)))
    (sym count) adds.sum) in
    fits_sum (count_of held c.bare.result) c.count_at_cost-cost.result own sum

pub loop-key-preserved : goal.loop-key-preserved
loop-key-preserved c =
    let e = position_of c.in-Some.key.now c.in-Some.count in
    let es = c.args.rest in
    let more = c.next_held.new.self in
    let adds =
    one_more at_cost es c.loop-key.held c.loop-key.rest more e c.in-Some.ensures.some
    c.loop-key.invariant in
    let fits : FitsSigned w128 e.count = search rules in
    let own : FitsSigned w128 c.count_at_cost-cost.result = search rules in
    let key = c.bare.ensures ∙ ap bare_key (c.new.ensures ∙ c.currency_at_cost.ensures) in
    let count =
    c.count_at_cost-cost.ensures ∙ ap (cost_count e.key.lot) (to_z-of_z w128 e.count fits) in
    let new =
    c.in_ok-add.ensures.ok
    ∙ ap₂ (added c.loop-key.held) key
    (to_z-of_z w128 c.count_at_cost-cost.result own ∙ count) in
    subst (λ held. IsUpTo at_cost es held more) (sym new) adds.next

pub returns : goal.returns
returns c =
    all at_cost c.args.rest c.loop-key.held c.loop-key.rest c.in_default.ensures.none
    c.loop-key.invariant
