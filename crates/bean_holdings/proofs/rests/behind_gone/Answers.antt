use Rattle.std.proofs.Common.{◌≡◌, ◌∷◌, to_z, of_z, arith, ap, sym, ◌∙◌}
use Rattle.std.specs.Int.{w128}
use Rattle.std.proofs.lemmas.Int.{ints}
use Rattle.bean_lots.specs.Inventory.{position_of}
use Rattle.bean_reductions.specs.Rest.{IsGone}
use Rattle.bean_reductions.proofs.AfterFacts.{fits_next}
use Rattle.bean_holdings.proofs.RestFacts.{behind_first}
use Rattle.bean_holdings.proofs.rests.behind_gone.Goals as goal

pub is_gone-requires : goal.is_gone-requires
is_gone-requires c =
    let n = to_z w128 (of_z w128 c.in_ok-key.count) in
    let same : n ≡ c.in_ok-key.count = omega (arith, ints) in
    let e = position_of c.in_ok-key.key.now n in
    let rest = c.next_held.new.self in
    let is : c.args.rest.now ≡ e ∷ rest =
    sym c.lend-behind.ensures ∙ c.in_ok-key.ensures.some
    ∙ ap (λ m. position_of c.in_ok-key.key.now m ∷ rest) (sym same) in
    fits_next c.args.rest.now rest c.args.taken.now e is c.requires.rest c.requires.taken

pub returns-clause-rest : goal.returns-clause-rest
returns-clause-rest c =
    let n = to_z w128 (of_z w128 c.in_ok-key.count) in
    let same : n ≡ c.in_ok-key.count = omega (arith, ints) in
    let e = position_of c.in_ok-key.key.now n in
    let rest = c.next_held.new.self in
    let is : c.args.rest.now ≡ e ∷ rest =
    sym c.lend-behind.ensures ∙ c.in_ok-key.ensures.some
    ∙ ap (λ m. position_of c.in_ok-key.key.now m ∷ rest) (sym same) in
    let gone = c.is_gone.ensures.0 c.if-not-is_gone.false in
    let none : IsGone c.args.taken.now e = omega (arith, ints, same, gone) in
    behind_first c.args.taken.now c.args.rest.now rest e is none
