use Rattle.std.proofs.Common.{map, sym, ◌∙◌}
use Rattle.query_holdings.specs.Entries.{in_order}
use Rattle.query_holdings.specs.Kept.{held_in}
use Rattle.query_holdings.specs.Placed.{entry_in}
use Rattle.query_holdings.proofs.KeptFacts.{held_in_order}
use Rattle.query_holdings.proofs.kept.Kept.positions.Goals as goal

pub beside-requires : goal.beside-requires
beside-requires c =
    let counts = c.as_slice-2.ensures ∙ c.deref.ensures in
    (λ i. map (entry_in (counts i)) (c.placed.ensures i))
    ∙ held_in_order c.self.inside.keys c.self.inside.counts.value c.self.invariant.few
    ∙ sym (λ i. in_order (held_in (c.as_slice.ensures i) (counts i)))
