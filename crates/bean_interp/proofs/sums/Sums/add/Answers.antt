use Rattle.std.proofs.Common.{◌≡◌, ◌+ℤ◌, ◌<◌, ◌^◌, true, false, to_z, of_z, ap, sym, ◌∙◌, subst, arith}
use Rattle.std.specs.Prelude.{List}
use Rattle.std.specs.Int.{w128}
use Rattle.std.specs.Int.RustNames.{unsigned_abs}
use Rattle.std.specs.Str.{bytes_eq}
use Rattle.std.proofs.lemmas.Int.{ints}
use Rattle.indexmap.specs.IndexMap.{insert_entry}
use Rattle.bean_interp.specs.Kept.{comes_first}
use Rattle.bean_interp.specs.Residual.{Weighed}
use Rattle.bean_interp.specs.Sums.{IsNarrow, entry_of}
use Rattle.bean_interp.proofs.CountFacts.{sum_is}
use Rattle.bean_interp.proofs.SumsFacts.{kept_other, set_first, set_other}
use Rattle.bean_interp.proofs.sums.Sums.add.Goals as goal

pub overflow_add-sum : goal.overflow_add-sum
overflow_add-sum c =
    omega (arith, ints, c.sum_before-before.ensures.bound, c.args.weight.bound)

pub returns-then-unsigned_abs-ge-MOST-clause-wide :
    goal.returns-then-unsigned_abs-ge-MOST-clause-wide
returns-then-unsigned_abs-ge-MOST-clause-wide c = λ _ fits.
    let k = c.args.weight.currency in
    let n = c.args.weight.count in
    let held =
    c.sum_before-before.ensures.sum
    ∙ ap (λ (es : List Weighed). entry_of es k) c.self.view_is in
    let sum =
    sum_is c.sum_before-before.result n c.sum_before-before.ensures.bound c.args.weight.bound
    ∙ ap (λ z. z +ℤ n) held in
    let wide = c.unsigned_abs.ensures.value ∙ ap unsigned_abs sum in
    omega (arith, wide, fits, c.if-unsigned_abs-ge-MOST.true)

pub returns-then-is_first-clause-added : goal.returns-then-is_first-clause-added
returns-then-is_first-clause-added c =
    let k = c.args.weight.currency in
    let n = c.args.weight.count in
    let held =
    c.sum_before-before.ensures.sum
    ∙ ap (λ (es : List Weighed). entry_of es k) c.self.view_is in
    let sum =
    sum_is c.sum_before-before.result n c.sum_before-before.ensures.bound c.args.weight.bound
    ∙ ap (λ z. z +ℤ n) held in
    let first : comes_first c.self.inside.first k ≡ true =
    sym c.comes_first-is_first.ensures ∙ c.if-is_first.true in
    set_first c.self.inside.first c.self.inside.others.entries c.args.self.now k _ first
    c.self.invariant c.self.view_is
    ∙ ap (insert_entry bytes_eq c.args.self.now k) sum

pub returns-then-is_first-clause-narrow : goal.returns-then-is_first-clause-narrow
returns-then-is_first-clause-narrow c =
    let k = c.args.weight.currency in
    let n = c.args.weight.count in
    let held =
    c.sum_before-before.ensures.sum
    ∙ ap (λ (es : List Weighed). entry_of es k) c.self.view_is in
    let sum =
    sum_is c.sum_before-before.result n c.sum_before-before.ensures.bound c.args.weight.bound
    ∙ ap (λ z. z +ℤ n) held in
    subst (λ z. unsigned_abs z < 10 ^ 38) sum
    (subst (λ m. m < 10 ^ 38) c.unsigned_abs.ensures.value c.if-unsigned_abs-ge-MOST.false)

pub invariant_of-self-2 : goal.invariant_of-self-2
invariant_of-self-2 c =
    let sum = to_z w128 (of_z w128 (to_z w128 (of_z w128 c.sum_before-before.result)
    +ℤ to_z w128 (of_z w128 c.args.weight.count))) in
    let small : IsNarrow sum =
    subst (λ m. m < 10 ^ 38) c.unsigned_abs.ensures.value c.if-unsigned_abs-ge-MOST.false in
    let other : comes_first c.self.inside.first c.args.weight.currency ≡ false =
    sym c.comes_first-is_first.ensures ∙ c.if-is_first.false in
    kept_other c.self.inside.first c.self.inside.others.entries c.insert.new.self.entries
    c.args.weight.currency sum small other c.in_ok-insert.ensures.entries c.self.invariant

pub returns-clause-added : goal.returns-clause-added
returns-clause-added c =
    let k = c.args.weight.currency in
    let n = c.args.weight.count in
    let held =
    c.sum_before-before.ensures.sum
    ∙ ap (λ (es : List Weighed). entry_of es k) c.self.view_is in
    let sum =
    sum_is c.sum_before-before.result n c.sum_before-before.ensures.bound c.args.weight.bound
    ∙ ap (λ z. z +ℤ n) held in
    let other : comes_first c.self.inside.first k ≡ false =
    sym c.comes_first-is_first.ensures ∙ c.if-is_first.false in
    set_other c.self.inside.first c.self.inside.others.entries c.insert.new.self.entries
    c.args.self.now k _ other c.in_ok-insert.ensures.entries c.self.view_is
    ∙ ap (insert_entry bytes_eq c.args.self.now k) sum

pub returns-clause-narrow : goal.returns-clause-narrow
returns-clause-narrow c =
    let k = c.args.weight.currency in
    let n = c.args.weight.count in
    let held =
    c.sum_before-before.ensures.sum
    ∙ ap (λ (es : List Weighed). entry_of es k) c.self.view_is in
    let sum =
    sum_is c.sum_before-before.result n c.sum_before-before.ensures.bound c.args.weight.bound
    ∙ ap (λ z. z +ℤ n) held in
    subst (λ z. unsigned_abs z < 10 ^ 38) sum
    (subst (λ m. m < 10 ^ 38) c.unsigned_abs.ensures.value c.if-unsigned_abs-ge-MOST.false)
