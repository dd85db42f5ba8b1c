use Rattle.std.proofs.Common.{ap, sym, ◌∙◌}
use Rattle.std.specs.Map.Iter.{deref_pair}
use Rattle.std.specs.Option.{option_map}
use Rattle.query_rows.proofs.SameFacts.{lists_same}
use Rattle.query_rows.specs.Same.{same_values}
use Rattle.query_groups.proofs.GroupFacts.{place_is}
use Rattle.query_groups.proofs.groups.stands_at.Goals as goal

pub returns : goal.returns
returns c = λ same.
    place_is lists_same c.args.entries.now.entries c.args.number c.args.keys.now _
    c.len.ensures.unique
    (sym c.get_index.ensures.entry ∙ ap (option_map deref_pair) c.unwrap.ensures)
    (sym (c.are_same.ensures ∙ ap (same_values c.args.keys.now) c.as_slice.ensures) ∙ same)
