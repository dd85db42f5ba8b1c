use Rattle.std.proofs.Common.{◌≡◌, ◌∷◌, ◌++◌, [], to_z, of_z, arith, ap, sym, ◌∙◌}
use Rattle.std.specs.Int.{w128}
use Rattle.std.proofs.lemmas.Int.{ints}
use Rattle.bean_lots.specs.Inventory.{position_of}
use Rattle.bean_reductions.specs.Rest.{IsGone}
use Rattle.bean_reductions.proofs.LastFacts.{fits_last}
use Rattle.bean_holdings.proofs.RestFacts.{before_last}
use Rattle.bean_holdings.proofs.rests.before_gone.Goals as goal

pub is_gone-requires : goal.is_gone-requires
is_gone-requires c =
    let n = to_z w128 (of_z w128 c.in_ok-key.count) in
    let same : n ≡ c.in_ok-key.count = omega (arith, ints) in
    let e = position_of c.in_ok-key.key.now n in
    let rest = c.next_back_held.new.self in
    let is : c.args.rest.now ≡ rest ++ e ∷ [] =
    sym c.lend-before.ensures ∙ c.in_ok-key.ensures.some
    ∙ ap (λ m. rest ++ position_of c.in_ok-key.key.now m ∷ []) (sym same) in
    fits_last c.args.rest.now rest c.args.taken.now e is c.requires.rest c.requires.taken

pub returns-clause-rest : goal.returns-clause-rest
returns-clause-rest c =
    let n = to_z w128 (of_z w128 c.in_ok-key.count) in
    let same : n ≡ c.in_ok-key.count = omega (arith, ints) in
    let e = position_of c.in_ok-key.key.now n in
    let rest = c.next_back_held.new.self in
    let is : c.args.rest.now ≡ rest ++ e ∷ [] =
    sym c.lend-before.ensures ∙ c.in_ok-key.ensures.some
    ∙ ap (λ m. rest ++ position_of c.in_ok-key.key.now m ∷ []) (sym same) in
    let gone = c.is_gone.ensures.0 c.if-not-is_gone.false in
    let none : IsGone c.args.taken.now e = omega (arith, ints, same, gone) in
    before_last c.args.taken.now c.args.rest.now rest e is none
