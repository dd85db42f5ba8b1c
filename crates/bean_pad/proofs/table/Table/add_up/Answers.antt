use Rattle.std.proofs.Common.{◌≡◌, ◌+ℤ◌, ◌<◌, ◌^◌, ◌&&◌, cond, ap, sym, subst, ◌∙◌, arith, to_z, refl}
use Rattle.std.proofs.Common.{of_z}
use Rattle.std.specs.Int.{w128}
use Rattle.std.specs.Int.RustNames.{unsigned_abs}
use Rattle.std.specs.Str.{bytes_eq}
use Rattle.std.proofs.lemmas.Int.{ints}
use Rattle.bean_pad.specs.Held.{is_within}
use Rattle.bean_pad.specs.Table.{entry_at}
use Rattle.bean_pad.proofs.AddingFacts.{IsAdding, begun, climbed, ended, entry, far, fewer_others}
use Rattle.bean_pad.proofs.AddingFacts.{no_others, same_entry}
use Rattle.bean_pad.proofs.TreeFacts.{within}
use Rattle.bean_pad.proofs.table.Table.add_up.Goals as goal

pub loop-number-init : goal.loop-number-init
loop-number-init c =
    let counts = c.self.inside.counts.by_number.entries in record {
      same = refl;
      adding = begun c.number.new.self counts c.args.account.now c.args.currency.now _
          c.in_ok-number.number c.in_ok-number.ensures.number;
      others = fewer_others c.self.inside.tree c.number.new.self counts c.in_ok-number.ensures.grows
          c.self.invariant;
    }

pub add-requires-clause-held : goal.add-requires-clause-held
add-requires-clause-held c =
    let old = c.self.inside.tree in
    let new = c.number.new.self in
    let first = c.self.inside.counts.by_number.entries in
    let now = c.loop-number.self-inside.counts.by_number.entries in
    let same = c.loop-number.invariant.same in
    let kept = same_entry old new first c.in_ok-number.ensures.grows c.in_ok-number.ensures.above
    c.self.invariant in
    far c.loop-number.self-inside.tree first now c.args.account.now c.args.currency.now _
    c.loop-number.number c.loop-number.invariant.adding c.loop-number-test.true
    (λ a k. subst (λ n. unsigned_abs n < 2 ^ 126)
    (ap (λ t. entry_at t a k) (sym c.self.view_is) ∙ sym (kept a k)
    ∙ ap (λ nodes. entry nodes first a k) (sym same))
    (c.requires.held a k))

pub loop-number-preserved : goal.loop-number-preserved
loop-number-preserved c =
    let nodes = c.loop-number.self-inside.tree in
    let first = c.self.inside.counts.by_number.entries in
    let now = c.loop-number.self-inside.counts.by_number.entries in
    let next = c.add.new.self.by_number.entries in
    let number = c.loop-number.number in
    let adding = c.loop-number.invariant.adding in record {
      same = c.loop-number.invariant.same;
      adding = climbed nodes first now next c.args.account.now c.args.currency.now _ number
          c.above-number.result adding c.loop-number-test.true c.in_ok-place.ensures.added
          c.above-number.ensures.above;
      others = no_others nodes now next number c.args.currency.now _
          (within nodes adding.names number adding.at) c.loop-number.invariant.others
          c.in_ok-place.ensures.added;
    }

pub returns : goal.returns
returns c = λ a k.
    let old = c.self.inside.tree in
    let new = c.number.new.self in
    let first = c.self.inside.counts.by_number.entries in
    let now = c.loop-number.self-inside.counts.by_number.entries in
    let nodes = c.loop-number.self-inside.tree in
    let count = to_z w128 (of_z w128 c.args.count) in
    let same_count : count ≡ c.args.count = omega (arith, ints) in
    let none = c.loop-number-test.false in
    let zero : c.loop-number.number ≡ 0 = omega (arith, none) in
    let adding =
    subst (IsAdding nodes first now c.args.account.now c.args.currency.now count) zero
    c.loop-number.invariant.adding in
    let same_first : entry nodes first a k ≡ entry_at c.args.self.now a k =
    ap (λ nodes. entry nodes first a k) c.loop-number.invariant.same
    ∙ same_entry old new first c.in_ok-number.ensures.grows c.in_ok-number.ensures.above
    c.self.invariant a k
    ∙ ap (λ t. entry_at t a k) c.self.view_is in
    ended nodes first now c.args.account.now c.args.currency.now count adding a k
    ∙ (λ i. cond (is_within a c.args.account.now && bytes_eq c.args.currency.now k)
    (same_first i +ℤ same_count i) (same_first i))
