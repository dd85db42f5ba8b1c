use Rattle.std.proofs.Common.{◌≡◌, ◌<◌, ◌^◌, ◌++◌, ◌∷◌, [], ℤ, cond, IfNone, IfSome, to_z, of_z, arith, ap, subst, sym, ◌∙◌}
use Rattle.std.specs.Int.{w128}
use Rattle.std.specs.Int.RustNames.{unsigned_abs}
use Rattle.std.specs.Str.{bytes_eq}
use Rattle.std.proofs.lemmas.Int.{ints}
use Rattle.std.proofs.lemmas.Result.{on_ok_weaker}
use Rattle.bean_lots.specs.Inventory.{added, count_of}
use Rattle.bean_reductions.specs.Rest.{HasAllLeft}
use Rattle.bean_reductions.proofs.AfterFacts.{count_small}
use Rattle.bean_reductions.proofs.AfterFacts as after_facts
use Rattle.bean_base.specs.Counts.{at_8}
use Rattle.bean_holdings.specs.Held.{key_of}
use Rattle.bean_holdings.specs.LotsLeft.{AreLeft}
use Rattle.bean_holdings.specs.Rests.{rest_in}
use Rattle.bean_holdings.specs.Inventories.{inventory_in}
use Rattle.bean_holdings.proofs.BoundFacts.{at_8_small}
use Rattle.bean_holdings.proofs.HeldFacts.{one_more_in}
use Rattle.bean_holdings.proofs.LotsLeftFacts.{sum_fits, sums_fit}
use Rattle.bean_holdings.proofs.RestFacts.{lots_more, rests_first, rests_more, small_part}
use Rattle.bean_holdings.proofs.TakesFacts.{small_held, small_taken}
use Rattle.bean_holdings.proofs.takes.Takes.add.Goals as goal

pub note-requires-clause-before : goal.note-requires-clause-before
note-requires-clause-before c =
    let a = c.args.take.now.account in
    let ps = c.requires.within.0 in
    sum_fits c.of-held.result.now c.of-taken.result.now c.key-key.result
    (small_held c.args.holdings.now a ps c.of-held.result.now c.of-taken.result.now
    c.of-held.ensures c.requires.bounded c.requires.few)
    (small_taken c.args.holdings.now a ps c.of-held.result.now c.of-taken.result.now
    (c.of-taken.ensures ∙ c.requires.within.1.takes a) c.requires.within.1.within c.requires.bounded
    c.requires.few)

pub note-requires-clause-after : goal.note-requires-clause-after
note-requires-clause-after c =
    let a = c.args.take.now.account in
    let ps = c.requires.within.0 in
    let wide : to_z w128 (of_z w128 c.scaled-count.result) ≡ c.scaled-count.result =
    omega (arith, ints) in
    sums_fit c.of-held.result.now c.of-taken.result.now c.key-key.result _
    (small_held c.args.holdings.now a ps c.of-held.result.now c.of-taken.result.now
    c.of-held.ensures c.requires.bounded c.requires.few)
    (small_taken c.args.holdings.now a ps c.of-held.result.now c.of-taken.result.now
    (c.of-taken.ensures ∙ c.requires.within.1.takes a) c.requires.within.1.within c.requires.bounded
    c.requires.few)
    (subst (λ n. unsigned_abs n < 10 ^ 20) (sym wide) c.scaled-count.ensures.bound)

pub before_take-rest-requires-clause-fits : goal.before_take-rest-requires-clause-fits
before_take-rest-requires-clause-fits c =
    let a = c.args.take.now.account in
    let ps = c.requires.within.0 in
    sum_fits c.of-held.result.now c.of-taken.result.now c.key-key.result
    (small_held c.args.holdings.now a ps c.of-held.result.now c.of-taken.result.now
    c.of-held.ensures c.requires.bounded c.requires.few)
    (small_taken c.args.holdings.now a ps c.of-held.result.now c.of-taken.result.now
    (c.of-taken.ensures ∙ c.requires.within.1.takes a) c.requires.within.1.within c.requires.bounded
    c.requires.few)

pub without_gone-requires-clause-rest : goal.without_gone-requires-clause-rest
without_gone-requires-clause-rest c =
    let a = c.args.take.now.account in
    let ps = c.requires.within.0 in
    let n = at_8 c.args.take.now.units.number in
    let all =
    subst
    (λ o. IfSome o (λ rest. (n : ℤ)
    → HasAllLeft (added c.of-taken.result.now c.key-key.result n) rest c.of-held.result.now))
    c.in-Some.is c.before_take-rest.ensures.some in
    small_part (added c.of-taken.result.now c.key-key.result n) c.in-Some.rest
    c.of-held.result.now (all n)
    (small_held c.args.holdings.now a ps c.of-held.result.now c.of-taken.result.now
    c.of-held.ensures c.requires.bounded c.requires.few)

pub without_gone-requires-clause-taken : goal.without_gone-requires-clause-taken
without_gone-requires-clause-taken c =
    let h = c.args.holdings.now in
    let a = c.args.take.now.account in
    let ps = c.requires.within.0 in
    small_taken h a (ps ++ c.args.take.now ∷ []) c.of-held.result.now c.of-taken-in-Some.result.now
    (c.of-taken-in-Some.ensures
    ∙ one_more_in ps c.args.take.now (inventory_in c.args.self.now.taken)
    (inventory_in c.post.new.self) c.requires.within.1.takes c.in_ok-post.ensures a)
    c.requires.within.2 c.requires.bounded c.requires.few

pub post-requires : goal.post-requires
post-requires c =
    let h = c.args.holdings.now in
    let p = c.args.take.now in
    let a = p.account in
    let ps = c.requires.within.0 in
    let ts = inventory_in c.args.self.now.taken a in
    let small =
    small_taken h a ps ts ts (c.requires.within.1.takes a) c.requires.within.1.within
    c.requires.bounded c.requires.few in
    let few = at_8_small p.units.number in
    after_facts.sum_fits (count_of ts (key_of p)) (at_8 p.units.number)
    (count_small (2 ^ 125) ts (key_of p) small) (omega (arith, few))

pub returns-in-Some : goal.returns-in-Some
returns-in-Some c = λ ps keeping within.
    let h = c.args.holdings.now in
    let g = c.args.self.now.taken in
    let f = c.post.new.self in
    let r = c.args.self.now.rests in
    let a = c.args.take.now.account in
    let k = key_of c.args.take.now in
    let n = at_8 c.args.take.now.units.number in
    let held = c.of-held.result.now in
    let taken = c.of-taken.result.now in
    let posted = c.in_ok-post.ensures in
    let takes =
    one_more_in ps c.args.take.now (inventory_in g) (inventory_in f) keeping.takes posted in
    let wide = to_z w128 (of_z w128 c.scaled-count.result) in
    let count : wide ≡ n = omega (arith, ints, c.scaled-count.ensures.value) in
    let lots : AreLeft c.note.new.self a held (added taken k n) =
    subst (λ q. AreLeft c.note.new.self a held (added taken q n)) c.key-key.ensures
    (subst (λ m. AreLeft c.note.new.self a held (added taken c.key-key.result m)) count
    c.in_ok-note.ensures.own) in
    let all =
    subst
    (λ o. IfSome o (λ rest. (n : ℤ) → HasAllLeft (added taken c.key-key.result n) rest held))
    c.in-Some.is c.before_take-rest.ensures.some in
    let own : HasAllLeft (added taken k n) c.in-Some.rest held =
    subst (λ q. HasAllLeft (added taken q n) c.in-Some.rest held) c.key-key.ensures (all n) in
    on_ok_weaker c.set.result
    (λ put. record {
      nothing = keeping.nothing;
      takes = takes;
      within = within;
      left =
          lots_more c.args.self.now.left c.note.new.self h g f a k n held taken c.of-held.ensures
          c.of-taken.ensures posted lots c.in_ok-note.ensures.others keeping.left;
      rests =
          rests_more r c.set.new.self h g f a k n held taken c.of-taken-in-Some.result.now
          c.in-Some.rest c.without_gone.result c.of-held.ensures c.of-taken.ensures
          c.of-taken-in-Some.ensures posted
          (λ x es.
          put x es
          ∙ ap (λ q. cond (bytes_eq q x) c.without_gone.result (rest_in r x es)) c.lend.ensures)
          own c.without_gone.ensures keeping.rests;
    })
    c.set.ensures

pub returns-in-None : goal.returns-in-None
returns-in-None c = λ ps keeping within.
    let h = c.args.holdings.now in
    let g = c.args.self.now.taken in
    let f = c.post.new.self in
    let r = c.args.self.now.rests in
    let a = c.args.take.now.account in
    let k = key_of c.args.take.now in
    let n = at_8 c.args.take.now.units.number in
    let held = c.of-held.result.now in
    let taken = c.of-taken.result.now in
    let posted = c.in_ok-post.ensures in
    let takes =
    one_more_in ps c.args.take.now (inventory_in g) (inventory_in f) keeping.takes posted in
    let wide = to_z w128 (of_z w128 c.scaled-count.result) in
    let count : wide ≡ n = omega (arith, ints, c.scaled-count.ensures.value) in
    let lots : AreLeft c.note.new.self a held (added taken k n) =
    subst (λ q. AreLeft c.note.new.self a held (added taken q n)) c.key-key.ensures
    (subst (λ m. AreLeft c.note.new.self a held (added taken c.key-key.result m)) count
    c.in_ok-note.ensures.own) in
    let all =
    subst
    (λ o. IfNone o ((n : ℤ)
    → HasAllLeft (added taken c.key-key.result n) (rest_in r a held) held))
    c.in-None.is c.before_take-rest.ensures.none in
    let own : HasAllLeft (added taken k n) (rest_in r a held) held =
    subst (λ q. HasAllLeft (added taken q n) (rest_in r a held) held) c.key-key.ensures (all n) in
    record {
      nothing = keeping.nothing;
      takes = takes;
      within = within;
      left =
          lots_more c.args.self.now.left c.note.new.self h g f a k n held taken c.of-held.ensures
          c.of-taken.ensures posted lots c.in_ok-note.ensures.others keeping.left;
      rests =
          rests_first r h g f a k n held taken c.of-held.ensures c.of-taken.ensures posted own
          keeping.rests;
    }
