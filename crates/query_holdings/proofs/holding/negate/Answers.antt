use Rattle.std.proofs.Common.{◌≡◌, ◌<◌, ◌^◌, ◌-ℤ◌, ℤ, pos, neg_ℤ, Some, length, slice_get, to_z}
use Rattle.std.proofs.Common.{of_z, sym, ap, ◌∙◌, arith, add-one}
use Rattle.std.specs.Int.{w128}
use Rattle.std.specs.Int.RustNames.{FitsSigned, unsigned_abs}
use Rattle.std.specs.Map.{values_of}
use Rattle.std.proofs.lemmas.Int.{ints}
use Rattle.std.proofs.lemmas.List.Elements.{recursion_from_All}
use Rattle.indexmap.specs.IndexMap.{set_value_at}
use Rattle.bean_lots.specs.Inventory.{MayBeNegated}
use Rattle.bean_lots.specs.Slots.{positions}
use Rattle.bean_lots.proofs.ChangedFacts.{all, next, one_more, same_length}
use Rattle.bean_lots.proofs.NegativeFacts.{fits, held, negative_front}
use Rattle.query_holdings.proofs.holding.negate.Goals as goal

turned : (n : ℤ) → unsigned_abs n < 2 ^ 127
    → to_z w128 (of_z w128 (pos 0 -ℤ to_z w128 (of_z w128 n))) ≡ neg_ℤ n
turned n small = omega (arith, ints)

may_turn : (n : ℤ) → unsigned_abs n < 2 ^ 127 → FitsSigned w128 (pos 0 -ℤ to_z w128 (of_z w128 n))
may_turn n small = omega (arith, ints)

pub count_at-count-requires : goal.count_at-count-requires
count_at-count-requires c =
    let es = c.args.counts.now in
    let i = c.loop-place.place in
    let same = ap length c.loop-place.invariant ∙ same_length neg_ℤ i es in
    omega (arith, same, c.loop-place-test.true, c.len-place-end.ensures.len)

pub overflow_sub-count : goal.overflow_sub-count
overflow_sub-count c =
    let es = c.args.counts.now in
    let i = c.loop-place.place in
    let n = c.count_at-count.result in
    let at : slice_get (values_of es) i ≡ Some n =
    sym (next neg_ℤ i es) ∙ ap (λ l. slice_get (values_of l) i) (sym c.loop-place.invariant)
    ∙ c.count_at-count.ensures in
    may_turn n
    (fits es i n (recursion_from_All MayBeNegated (positions es) c.requires) at)

pub set-requires : goal.set-requires
set-requires c =
    let es = c.args.counts.now in
    let i = c.loop-place.place in
    let same = ap length c.loop-place.invariant ∙ same_length neg_ℤ i es in
    omega (arith, same, c.loop-place-test.true, c.len-place-end.ensures.len)

pub loop-place-preserved : goal.loop-place-preserved
loop-place-preserved c =
    let es = c.args.counts.now in
    let i = c.loop-place.place in
    let n = c.count_at-count.result in
    let at : slice_get (values_of es) i ≡ Some n =
    sym (next neg_ℤ i es) ∙ ap (λ l. slice_get (values_of l) i) (sym c.loop-place.invariant)
    ∙ c.count_at-count.ensures in
    let small = fits es i n (recursion_from_All MayBeNegated (positions es) c.requires) at in
    rw add-one
    (c.set.ensures ∙ ap (set_value_at c.loop-place.counts i) (turned n small)
    ∙ ap (λ l. set_value_at l i (neg_ℤ n)) c.loop-place.invariant ∙ one_more neg_ℤ i es n at)

pub returns : goal.returns
returns c =
    let es = c.args.counts.now in
    let end : c.loop-place.place ≡ length es = omega arith in
    ap positions
    (c.loop-place.invariant ∙ ap (λ n. negative_front n es) end ∙ all neg_ℤ es) ∙ held es
