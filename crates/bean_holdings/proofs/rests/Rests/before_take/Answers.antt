use Rattle.std.proofs.Common.{◌≡◌, ◌+ℤ◌, pos, false, to_z, of_z, arith, subst, sym}
use Rattle.std.specs.Int.{w128}
use Rattle.std.specs.Ordering.{int_eq}
use Rattle.std.proofs.lemmas.Int.{ints}
use Rattle.bean_lots.specs.Inventory.{added, count_of}
use Rattle.bean_reductions.specs.Rest.{HasAllLeft}
use Rattle.bean_holdings.specs.Rests.{rest_in}
use Rattle.bean_holdings.proofs.RestFacts.{all_left, first_take, once_more}
use Rattle.bean_holdings.proofs.rests.Rests.before_take.Goals as goal

pub returns-then-is_bare-clause-none : goal.returns-then-is_bare-clause-none
returns-then-is_bare-clause-none c = λ n.
    let es = c.args.held.now in
    first_take c.args.taken.now (rest_in c.args.self.now c.args.account.now es) es c.args.key.now n
    (c.is_bare.ensures.bare c.if-is_bare.true) c.get-held_count.ensures.inventory c.requires.rest

pub returns-then-held_count-get-eq0-clause-some : goal.returns-then-held_count-get-eq0-clause-some
returns-then-held_count-get-eq0-clause-some c = λ n.
    let ts = added c.args.taken.now c.args.key.now n in
    subst (λ es. HasAllLeft ts es c.args.held.now) (sym c.positions.ensures)
    (all_left ts c.args.held.now)

pub returns-clause-some : goal.returns-clause-some
returns-clause-some c = λ n.
    let es = c.args.held.now in
    let ts = c.args.taken.now in
    let k = c.args.key.now in
    let first : to_z w128 (of_z w128 c.get-held_count.result) ≡ count_of es k =
    omega (arith, ints, c.get-held_count.ensures.count) in
    let second : to_z w128 (of_z w128 c.get.result) ≡ count_of ts k =
    omega (arith, ints, c.get.ensures.count) in
    let fits = c.requires.fits in
    let sum = to_z w128 (of_z w128 (to_z w128 (of_z w128 c.get-held_count.result)
    +ℤ to_z w128 (of_z w128 c.get.result))) in
    let same : sum ≡ count_of es k +ℤ count_of ts k = omega (arith, ints, first, second, fits) in
    let some : int_eq (count_of es k +ℤ count_of ts k) (pos 0) ≡ false =
    grind (arith, ints, c.if-held_count-get-eq0.false, same) in
    subst (λ rest. HasAllLeft (added ts k n) rest es) (sym c.of.ensures)
    (once_more ts (rest_in c.args.self.now c.args.account.now es) es k n c.get.ensures.inventory
    c.get-held_count.ensures.inventory some c.requires.rest)
