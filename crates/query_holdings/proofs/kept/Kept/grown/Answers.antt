use Rattle.std.proofs.Common.{◌≡◌, ◌+ℤ◌, ◌++◌, [], ◌∷◌, to_z, of_z, sym, ap, ap₂, subst, ◌∙◌, arith, rules}
use Rattle.std.proofs.Common.{append_assoc}
use Rattle.std.specs.Int.{w128}
use Rattle.std.specs.Int.RustNames.{FitsSigned}
use Rattle.std.proofs.lemmas.Int.{ints, to_z-of_z}
use Rattle.bean_lots.specs.Inventory.{IsInventory, added, count_of, position_of}
use Rattle.query_holdings.proofs.KeptFacts.{goes_last, not_yet}
use Rattle.query_holdings.proofs.kept.Kept.grown.Goals as goal

pub add-requires : goal.add-requires
add-requires c =
    let e = position_of c.in-Some.key.now c.in-Some.count in
    let held = c.loop-key.held in
    let all : held ++ e ∷ c.next_held.new.self ≡ c.args.self.now =
    ap (λ l. held ++ l) (sym c.in-Some.ensures.some) ∙ c.loop-key.invariant in
    let none = not_yet held c.next_held.new.self e
    (subst IsInventory (sym all) c.positions-rest.ensures.inventory) in
    let fits : FitsSigned w128 e.count = search rules in
    let count = ap (count_of held) c.lend.ensures ∙ none in
    subst (λ n. FitsSigned w128 (n +ℤ to_z w128 (of_z w128 e.count))) (sym count)
    (omega (arith, ints, fits))

pub loop-key-preserved : goal.loop-key-preserved
loop-key-preserved c =
    let e = position_of c.in-Some.key.now c.in-Some.count in
    let held = c.loop-key.held in
    let more = c.next_held.new.self in
    let all : held ++ e ∷ more ≡ c.args.self.now =
    ap (λ l. held ++ l) (sym c.in-Some.ensures.some) ∙ c.loop-key.invariant in
    let last = goes_last held more e
    (subst IsInventory (sym all) c.positions-rest.ensures.inventory) in
    let fits : FitsSigned w128 e.count = search rules in
    ap (λ l. l ++ more)
    (c.in_ok-add.ensures.ok ∙ ap₂ (added held) c.lend.ensures (to_z-of_z w128 e.count fits) ∙ last)
    ∙ append_assoc held (e ∷ []) more ∙ all
