use Rattle.std.proofs.Common.{◌≡◌, ◌+◌, ◌∙◌, ℕ, ℤ, List, true, cond, ap, subst, to_z, of_z, arith}
use Rattle.std.specs.Int.{w128}
use Rattle.std.specs.Option.{is_some}
use Rattle.std.proofs.lemmas.Int.{ints}
use Rattle.std.proofs.lemmas.Slice.Eq.{bytes_eq-Decides}
use Rattle.indexmap.proofs.MapLemmas.{OnOk-map}
use Rattle.bean_lots.specs.Inventory.{as_long, as_short}
use Rattle.bean_lots.specs.Lot.{same_text}
use Rattle.bean_inventories.specs.Signs.{signs_at}
use Rattle.bean_inventories.specs.declared.inventory.signs.Signs.{Signs}
use Rattle.bean_inventories.proofs.SignFacts.{recounted}
use Rattle.bean_inventories.proofs.inventory.signs.SignTable.recount.Goals as goal

pub returns-clause-ok : goal.returns-clause-ok
returns-clause-ok c =
    let t = c.args.self.now in
    let k = c.args.key.now in
    let own = c.of.result in
    let new = c.changed-signs.result in
    let m = c.args.before in
    let n = c.args.after in
    let first : to_z w128 (of_z w128 m) ≡ m = omega (arith, ints) in
    let second : to_z w128 (of_z w128 n) ≡ n = omega (arith, ints) in
    let changed : (f : ℤ → ℕ) (g : Signs → ℕ)
    → g new + f (to_z w128 (of_z w128 m)) ≡ g own + f (to_z w128 (of_z w128 n))
    → g new + f m ≡ g own + f n =
    λ f g e. subst (λ i. g new + f i ≡ g own + f n) first
    (subst (λ i. g new + f (to_z w128 (of_z w128 m)) ≡ g own + f i) second e) in
    OnOk-map c.set.result _ _ (λ set.
    let is_now : (cur : List ℕ)
    → signs_at c.set.new.self cur ≡ cond (same_text k.currency cur) new (signs_at t cur) =
    λ cur. set cur ∙ ap (λ x. cond (same_text x cur) new (signs_at t cur)) c.lend.ensures in
    let is_old : (cur : List ℕ) → same_text k.currency cur ≡ true → own ≡ signs_at t cur =
    λ cur s. c.of.ensures ∙ ap (signs_at t) ((bytes_eq-Decides k.currency cur).0 s) in
    record {
      long = λ cur.
          recounted as_long (λ x. x.long) (same_text k.currency cur) (is_some k.lot) m n own
          (signs_at t cur) new _ c.requires.lot (is_old cur) (is_now cur)
          (changed as_long (λ x. x.long) c.changed-signs.ensures.long);
      short = λ cur.
          recounted as_short (λ x. x.short) (same_text k.currency cur) (is_some k.lot) m n own
          (signs_at t cur) new _ c.requires.lot (is_old cur) (is_now cur)
          (changed as_short (λ x. x.short) c.changed-signs.ensures.short);
    })
    c.set.ensures.ok
