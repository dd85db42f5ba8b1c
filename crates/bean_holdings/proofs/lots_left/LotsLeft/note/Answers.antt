use Rattle.std.proofs.Common.{◌≡◌, ◌≤◌, ◌&&◌, ◌+ℤ◌, pos, cond, true, false, to_z, of_z, arith, rules}
use Rattle.std.proofs.Common.{subst, ap, ◌∙◌}
use Rattle.std.specs.Int.{w128}
use Rattle.std.specs.Option.{is_some}
use Rattle.std.specs.Ordering.{int_eq}
use Rattle.std.specs.Str.{bytes_eq}
use Rattle.std.proofs.lemmas.Int.{ints}
use Rattle.indexmap.proofs.MapLemmas.{OnOk-map}
use Rattle.bean_lots.specs.Inventory.{added, as_long, as_short, count_of}
use Rattle.bean_holdings.specs.LotsLeft.{left_in}
use Rattle.bean_holdings.proofs.LotsLeftFacts.{as_before, counted, few_long, few_short, long_part}
use Rattle.bean_holdings.proofs.LotsLeftFacts.{no_lot_at_all, not_held, noted, recoated, short_part}
use Rattle.bean_holdings.proofs.lots_left.LotsLeft.note.Goals as goal

pub returns-then-held_count-eq0-clause-own : goal.returns-then-held_count-eq0-clause-own
returns-then-held_count-eq0-clause-own c =
    let es = c.args.held.now in
    let ts = c.args.taken.now in
    let k = c.args.key.now in
    let n = c.args.count in
    let zero : count_of es k ≡ pos 0 =
    grind (arith, ints, c.if-held_count-eq0.true, c.get-held_count.ensures.count) in
    as_before c.args.self.now c.args.account.now es ts (added ts k n) c.requires.left
    (λ cur. not_held cur es ts k n c.get-held_count.ensures.inventory c.get.ensures.inventory zero)

pub returns-then-is_none-clause-own : goal.returns-then-is_none-clause-own
returns-then-is_none-clause-own c =
    let es = c.args.held.now in
    let ts = c.args.taken.now in
    let k = c.args.key.now in
    let n = c.args.count in
    let lot : is_some k.lot ≡ false = search rules in
    as_before c.args.self.now c.args.account.now es ts (added ts k n) c.requires.left
    (λ cur. no_lot_at_all cur es ts k n c.get-held_count.ensures.inventory c.get.ensures.inventory
    lot)

pub changed-signs-requires-clause-long : goal.changed-signs-requires-clause-long
changed-signs-requires-clause-long c =
    let es = c.args.held.now in
    let ts = c.args.taken.now in
    let k = c.args.key.now in
    let lot : is_some k.lot ≡ true = search rules in
    let some : int_eq (count_of es k) (pos 0) ≡ false =
    grind (arith, ints, c.if-held_count-eq0.false, c.get-held_count.ensures.count) in
    let first : to_z w128 (of_z w128 c.get-held_count.result) ≡ count_of es k =
    omega (arith, ints, c.get-held_count.ensures.count) in
    let second : to_z w128 (of_z w128 c.get.result) ≡ count_of ts k =
    omega (arith, ints, c.get.ensures.count) in
    let fits = c.requires.before in
    let same : count_of es k +ℤ count_of ts k
    ≡ to_z w128 (of_z w128 (to_z w128 (of_z w128 c.get-held_count.result)
    +ℤ to_z w128 (of_z w128 c.get.result))) =
    omega (arith, ints, first, second, fits) in
    subst (λ m. as_long m ≤ c.of.result.long) same
    (long_part es ts k c.of.result lot (c.of.ensures.left ∙ c.requires.left.each k.currency) some)

pub changed-signs-requires-clause-short : goal.changed-signs-requires-clause-short
changed-signs-requires-clause-short c =
    let es = c.args.held.now in
    let ts = c.args.taken.now in
    let k = c.args.key.now in
    let lot : is_some k.lot ≡ true = search rules in
    let some : int_eq (count_of es k) (pos 0) ≡ false =
    grind (arith, ints, c.if-held_count-eq0.false, c.get-held_count.ensures.count) in
    let first : to_z w128 (of_z w128 c.get-held_count.result) ≡ count_of es k =
    omega (arith, ints, c.get-held_count.ensures.count) in
    let second : to_z w128 (of_z w128 c.get.result) ≡ count_of ts k =
    omega (arith, ints, c.get.ensures.count) in
    let fits = c.requires.before in
    let same : count_of es k +ℤ count_of ts k
    ≡ to_z w128 (of_z w128 (to_z w128 (of_z w128 c.get-held_count.result)
    +ℤ to_z w128 (of_z w128 c.get.result))) =
    omega (arith, ints, first, second, fits) in
    subst (λ m. as_short m ≤ c.of.result.short) same
    (short_part es ts k c.of.result lot (c.of.ensures.left ∙ c.requires.left.each k.currency) some)

pub changed-signs-requires-clause-few_long : goal.changed-signs-requires-clause-few_long
changed-signs-requires-clause-few_long c =
    few_long c.args.key.now.currency c.args.held.now c.args.taken.now c.of.result
    (c.of.ensures.left ∙ c.requires.left.each c.args.key.now.currency) c.of.ensures.few

pub changed-signs-requires-clause-few_short : goal.changed-signs-requires-clause-few_short
changed-signs-requires-clause-few_short c =
    few_short c.args.key.now.currency c.args.held.now c.args.taken.now c.of.result
    (c.of.ensures.left ∙ c.requires.left.each c.args.key.now.currency) c.of.ensures.few

pub returns-clause-own : goal.returns-clause-own
returns-clause-own c =
    let l = c.args.self.now in
    let a = c.args.account.now in
    let es = c.args.held.now in
    let ts = c.args.taken.now in
    let k = c.args.key.now in
    let n = c.args.count in
    let i = c.get-held_count.ensures.inventory in
    let j = c.get.ensures.inventory in
    let lot : is_some k.lot ≡ true = search rules in
    let some : int_eq (count_of es k) (pos 0) ≡ false =
    grind (arith, ints, c.if-held_count-eq0.false, c.get-held_count.ensures.count) in
    let first : to_z w128 (of_z w128 c.get-held_count.result) ≡ count_of es k =
    omega (arith, ints, c.get-held_count.ensures.count) in
    let second : to_z w128 (of_z w128 c.get.result) ≡ count_of ts k =
    omega (arith, ints, c.get.ensures.count) in
    let third : to_z w128 (of_z w128 n) ≡ n = omega (arith, ints) in
    let before = count_of es k +ℤ count_of ts k in
    let fits = c.requires.before in
    let may = c.requires.after in
    let new = c.changed-signs.result in
    let own = c.of.result in
    let sum = to_z w128 (of_z w128 (to_z w128 (of_z w128 c.get-held_count.result)
    +ℤ to_z w128 (of_z w128 c.get.result))) in
    let all = to_z w128 (of_z w128 (sum +ℤ to_z w128 (of_z w128 n))) in
    let same : sum ≡ before = omega (arith, ints, first, second, fits) in
    let now : all ≡ before +ℤ n = omega (arith, ints, same, third, may) in
    let longs =
    recoated as_long new.long own.long sum all before (before +ℤ n) c.changed-signs.ensures.long
    same now in
    let shorts =
    recoated as_short new.short own.short sum all before (before +ℤ n)
    c.changed-signs.ensures.short same now in
    OnOk-map c.set.result _ _ (λ set.
    noted l c.set.new.self a es ts k n new i j c.requires.left
    (counted es ts k n own new i j some lot
    (c.of.ensures.left ∙ c.requires.left.each k.currency) longs shorts)
    (λ cur. set a cur es))
    c.set.ensures

pub returns-clause-others : goal.returns-clause-others
returns-clause-others c =
    let k = c.args.key.now in
    OnOk-map c.set.result _ _ (λ set a cur es s.
    set a cur es
    ∙ ap (λ b. cond (b && bytes_eq k.currency cur) c.changed-signs.result
    (left_in c.args.self.now a cur es)) s)
    c.set.ensures
