use Rattle.std.proofs.Common.{◌+ℤ◌, IsTrue, to_z, of_z, sym, ap, subst, ◌∙◌, rules}
use Rattle.std.specs.Int.{w128}
use Rattle.std.specs.Int.RustNames.{FitsSigned}
use Rattle.bean_lots.specs.Inventory.{count_of}
use Rattle.query_bags.proofs.SumFacts.{both, fits_sum}
use Rattle.query_values.specs.Aggregate.{gathered}
use Rattle.query_values.specs.Held.{is_held}
use Rattle.query_holdings.specs.Total.{bare_key}
use Rattle.query_values.specs.declared.value.Value.TheVariants.{Inventory}
use Rattle.query_values.proofs.TotalFacts.{within}
use Rattle.query_values.proofs.gathering.add_entry.Goals as goal

pub add-requires : goal.add-requires
add-requires c =
    let b = c.in-Inventory.bag in
    let n = c.in-Amount.count in
    let fits : FitsSigned w128 n = search rules in
    let key = c.bare.ensures ∙ ap bare_key c.lend.ensures in
    let held =
    subst (λ x. IsTrue (is_held (gathered (Inventory b) x))) c.in-Amount.is
    (subst (λ t. IsTrue (is_held (gathered t c.args.entry.now))) c.in-Inventory.is
    c.requires) in
    let small = within b.held (bare_key c.in-Amount.currency) n (both _ _ held).1 in
    subst (λ k. FitsSigned w128 (count_of b.held k +ℤ to_z w128 (of_z w128 n))) (sym key)
    (fits_sum (count_of b.held (bare_key c.in-Amount.currency)) n fits small)

pub add-requires-in-Position : goal.add-requires-in-Position
add-requires-in-Position c =
    let b = c.in-Inventory.bag in
    let n = c.in-Position.count in
    let fits : FitsSigned w128 n = search rules in
    let key = c.of.ensures ∙ c.get.ensures in
    let held =
    subst (λ x. IsTrue (is_held (gathered (Inventory b) x))) c.in-Position.is
    (subst (λ t. IsTrue (is_held (gathered t c.args.entry.now))) c.in-Inventory.is
    c.requires) in
    let small = within b.held c.in-Position.key n (both _ _ held).1 in
    subst (λ k. FitsSigned w128 (count_of b.held k +ℤ to_z w128 (of_z w128 n))) (sym key)
    (fits_sum (count_of b.held c.in-Position.key) n fits small)
