use Rattle.std.proofs.Common.{◌≡◌, [], ◌+ℤ◌, to_z, of_z, arith, subst, sym, ap}
use Rattle.std.proofs.Common.{◌∙◌, unwrap_or}
use Rattle.std.specs.Int.{w128}
use Rattle.std.specs.Int.RustNames.{FitsSigned}
use Rattle.std.specs.Str.{bytes_eq}
use Rattle.std.proofs.lemmas.Int.{ints}
use Rattle.indexmap.proofs.MapLemmas.{Found-position, OnOk-map}
use Rattle.bean_lots.specs.Inventory.{count_of}
use Rattle.bean_holdings.specs.Inventories.{inventory_in}
use Rattle.bean_holdings.proofs.BoundFacts.{added_at}
use Rattle.bean_holdings.proofs.InPlace.{put_or_before, written}
use Rattle.bean_holdings.proofs.inventories.Inventories.add.Goals as goal

pub add-requires : goal.add-requires
add-requires c =
    let i = c.args.self.now in
    let count : to_z w128 (of_z w128 c.args.count) ≡ c.args.count = omega (arith, ints) in
    let there = Found-position (bytes_eq c.args.account) i.by_account.entries c.in-Some.index
    c.in-Some.ensures.some in
    let own : inventory_in i c.args.account ≡ c.index_mut.result.now =
    ap (λ o. unwrap_or o []) (there.value ∙ c.index_mut.ensures.value) in
    subst (λ es. FitsSigned w128 (count_of es c.args.key +ℤ to_z w128 (of_z w128 c.args.count))) own
    (subst (λ n. FitsSigned w128 (count_of (inventory_in i c.args.account) c.args.key +ℤ n))
    (sym count) c.requires)

pub returns : goal.returns
returns c =
    let i = c.args.self.now in
    let count : to_z w128 (of_z w128 c.args.count) ≡ c.args.count = omega (arith, ints) in
    let there = Found-position (bytes_eq c.args.account) i.by_account.entries c.in-Some.index
    c.in-Some.ensures.some in
    let own : inventory_in i c.args.account ≡ c.index_mut.result.now =
    ap (λ o. unwrap_or o []) (there.value ∙ c.index_mut.ensures.value) in
    OnOk-map c.note_place.result _ _ (λ same a.
    same a
    ∙ added_at (inventory_in i) c.args.account a c.index_mut.result.now c.add.new.self _ c.args.key
    c.args.count _ (sym own) c.in_ok-add.ensures.ok count
    (ap (λ o. unwrap_or o [])
    (written i.by_account.entries c.args.account a c.in-Some.index c.add.new.self
    c.in-Some.ensures.some)
    ∙ put_or_before (bytes_eq c.args.account a) c.add.new.self [] _))
    c.note_place.ensures
