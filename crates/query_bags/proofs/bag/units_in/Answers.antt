use Rattle.std.proofs.Common.{◌+ℤ◌, to_z, of_z, ap, ap₂, refl, subst, sym, ◌∙◌}
use Rattle.std.proofs.Common.{rules}
use Rattle.std.specs.Int.{w128}
use Rattle.std.specs.Int.RustNames.{FitsSigned}
use Rattle.std.proofs.lemmas.Int.{to_z-of_z}
use Rattle.bean_lots.specs.Inventory.{added, count_of, position_of}
use Rattle.query_holdings.specs.Total.{bare_key, without_lot}
use Rattle.query_bags.proofs.SumFacts.{IsUpTo, one_more, none_yet, all, fits_sum}
use Rattle.query_bags.proofs.bag.units_in.Goals as goal

pub loop-key-init : goal.loop-key-init
loop-key-init c =
    none_yet without_lot c.args.rest c.new-held.result c.args.rest
    c.new-held.ensures refl c.requires

pub add-requires : goal.add-requires
add-requires c =
    let e = position_of c.in-Some.key.now c.in-Some.count in
    let adds =
    one_more without_lot c.args.rest c.loop-key.held c.loop-key.rest c.next_held.new.self e
    c.in-Some.ensures.some c.loop-key.invariant in
    let fits : FitsSigned w128 e.count = search rules in
    let key = c.bare.ensures ∙ ap bare_key (c.new.ensures ∙ c.currency.ensures) in
    subst (λ k. FitsSigned w128 (count_of c.loop-key.held k +ℤ to_z w128 (of_z w128 e.count)))
    (sym key)
    (fits_sum (count_of c.loop-key.held (bare_key e.key.currency)) e.count fits adds.sum)

pub loop-key-preserved : goal.loop-key-preserved
loop-key-preserved c =
    let e = position_of c.in-Some.key.now c.in-Some.count in
    let es = c.args.rest in
    let more = c.next_held.new.self in
    let adds =
    one_more without_lot es c.loop-key.held c.loop-key.rest more e c.in-Some.ensures.some
    c.loop-key.invariant in
    let fits : FitsSigned w128 e.count = search rules in
    let key = c.bare.ensures ∙ ap bare_key (c.new.ensures ∙ c.currency.ensures) in
    let new =
    c.in_ok-add.ensures.ok ∙ ap₂ (added c.loop-key.held) key (to_z-of_z w128 e.count fits) in
    subst (λ held. IsUpTo without_lot es held more) (sym new) adds.next

pub returns : goal.returns
returns c =
    all without_lot c.args.rest c.loop-key.held c.loop-key.rest
    c.in_default.ensures.none c.loop-key.invariant
