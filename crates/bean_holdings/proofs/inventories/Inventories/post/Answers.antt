use Rattle.std.proofs.Common.{◌≡◌, ◌+ℤ◌, cond, to_z, of_z, arith, subst, sym, ◌∙◌}
use Rattle.std.specs.Int.{w128}
use Rattle.std.specs.Int.RustNames.{FitsSigned}
use Rattle.std.specs.Str.{bytes_eq}
use Rattle.std.proofs.lemmas.Int.{ints}
use Rattle.indexmap.proofs.MapLemmas.{OnOk-map}
use Rattle.bean_lots.specs.Inventory.{added, count_of}
use Rattle.bean_base.specs.Counts.{at_8}
use Rattle.bean_holdings.specs.Held.{key_of}
use Rattle.bean_holdings.specs.Inventories.{inventory_in}
use Rattle.bean_holdings.proofs.inventories.Inventories.post.Goals as goal

pub add-requires : goal.add-requires
add-requires c =
    let i = c.args.self.now in
    let p = c.args.posted.now in
    let wide : to_z w128 (of_z w128 c.scaled-count.result) ≡ at_8 p.units.number =
    omega (arith, ints, c.scaled-count.ensures.value) in
    subst
    (λ n. FitsSigned w128 (count_of (inventory_in i c.lend.result) c.key-key.result +ℤ n)) (sym wide)
    (subst
    (λ k. FitsSigned w128 (count_of (inventory_in i c.lend.result) k +ℤ at_8 p.units.number))
    (sym c.key-key.ensures)
    (subst
    (λ a. FitsSigned w128 (count_of (inventory_in i a) (key_of p) +ℤ at_8 p.units.number))
    (sym c.lend.ensures) c.requires))

pub returns : goal.returns
returns c =
    let i = c.args.self.now in
    let p = c.args.posted.now in
    let wide : to_z w128 (of_z w128 c.scaled-count.result) ≡ at_8 p.units.number =
    omega (arith, ints, c.scaled-count.ensures.value) in
    OnOk-map c.add.result _ _ (λ more a.
    more a
    ∙ (λ j. cond (bytes_eq (c.lend.ensures j) a)
    (added (inventory_in i a) (c.key-key.ensures j) (wide j)) (inventory_in i a)))
    c.add.ensures
