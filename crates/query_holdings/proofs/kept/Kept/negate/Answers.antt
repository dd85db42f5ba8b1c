use Rattle.std.proofs.Common.{◌≡◌, length, map, neg_ℤ, arith, subst, sym, ap, ◌∙◌}
use Rattle.bean_lots.specs.Inventory.{IsInventory, negative_entry}
use Rattle.query_holdings.specs.Kept.{IsKept, held_in}
use Rattle.query_holdings.proofs.KeptFacts.{turned_held, turned_inventory}
use Rattle.query_holdings.proofs.kept.Kept.negate.Goals as goal

pub invariant_of-self : goal.invariant_of-self
invariant_of-self c =
    let ks = c.self.inside.keys in
    let ns = c.self.inside.counts.value in
    let is : c.turned-counts.result ≡ map neg_ℤ ns =
    c.turned-counts.ensures.values ∙ ap (map neg_ℤ) c.deref.ensures in
    let len = ap length c.deref.ensures in
    subst (IsKept ks) (sym c.replace.ensures.after)
    (record {
      inventory = subst IsInventory (sym (ap (held_in ks) is ∙ turned_held ks ns))
          (turned_inventory (held_in ks ns) c.self.invariant.inventory);
      turn = c.turned-counts.ensures.turn;
      few = omega (arith, c.turned-counts.ensures.len, len, c.self.invariant.few);
    })

pub returns : goal.returns
returns c =
    let ks = c.self.inside.keys in
    let ns = c.self.inside.counts.value in
    ap (held_in ks)
    (c.replace.ensures.after ∙ c.turned-counts.ensures.values ∙ ap (map neg_ℤ) c.deref.ensures)
    ∙ turned_held ks ns ∙ ap (map negative_entry) c.self.view_is
