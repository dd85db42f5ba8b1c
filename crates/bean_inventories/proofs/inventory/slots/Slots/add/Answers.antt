use Rattle.std.proofs.Common.{◌≡◌, ◌+ℤ◌, Some, pos, unwrap_or, arith, sym, ap, subst, ◌∙◌}
use Rattle.std.specs.Int.{w128}
use Rattle.std.specs.Int.RustNames.{FitsSigned}
use Rattle.std.proofs.lemmas.Int.{ints}
use Rattle.indexmap.proofs.MapLemmas.{OnOk-map}
use Rattle.bean_lots.specs.Inventory.{count_of}
use Rattle.bean_lots.specs.Slots.{positions}
use Rattle.bean_lots.proofs.SlotFacts.{counted}
use Rattle.bean_inventories.proofs.inventory.slots.Slots.add.Goals as goal

pub overflow_add-before : goal.overflow_add-before
overflow_add-before c =
    let es = c.args.self.now.counts in
    let n = c.count_at-before.result in
    let held : count_of (positions es) c.args.key ≡ n =
    counted es c.args.key c.in-Some.ensures.unique
    ∙ ap (λ o. unwrap_or o (pos 0))
    (sym c.in-Some.ensures.value ∙ c.count_at-before.ensures) in
    let fits : FitsSigned w128 (n +ℤ c.args.count) =
    subst (λ m. FitsSigned w128 (m +ℤ c.args.count)) held c.requires.fits in
    omega (arith, ints, fits)

pub returns-then-before-ne0-clause-ok : goal.returns-then-before-ne0-clause-ok
returns-then-before-ne0-clause-ok c =
    let es = c.args.self.now.counts in
    let n = c.count_at-before.result in
    let held : count_of (positions es) c.args.key ≡ n =
    counted es c.args.key c.in-Some.ensures.unique
    ∙ ap (λ o. unwrap_or o (pos 0))
    (sym c.in-Some.ensures.value ∙ c.count_at-before.ensures) in
    let fits : FitsSigned w128 (n +ℤ c.args.count) =
    subst (λ m. FitsSigned w128 (m +ℤ c.args.count)) held c.requires.fits in
    OnOk-map c.write.result _ _ (λ all. all c.args.count (omega (arith, ints, fits)))
    c.write.ensures.ok

pub fill-requires-clause-at : goal.fill-requires-clause-at
fill-requires-clause-at c = sym c.place_of.ensures.place ∙ c.in-Some.is

pub fill-requires-clause-hole : goal.fill-requires-clause-hole
fill-requires-clause-hole c =
    let zero : c.count_at-before.result ≡ pos 0 = grind (arith, ints, c.if-before-ne0.false) in
    sym c.in-Some.ensures.value ∙ c.count_at-before.ensures ∙ ap Some zero
