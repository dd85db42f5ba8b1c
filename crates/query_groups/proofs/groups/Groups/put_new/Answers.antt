use Rattle.std.proofs.Common.{◌≡◌, ◌≢◌, None, Some, ap, sym, subst, ◌∙◌, unwrap_or}
use Rattle.std.specs.Map.{lookup}
use Rattle.indexmap.proofs.MapLemmas.{OnOk-map}
use Rattle.indexmap.specs.IndexMap.{insert_entry}
use Rattle.plain_machine.specs.Gathering.{put, running_values}
use Rattle.query_rows.specs.Same.{same_values}
use Rattle.query_groups.proofs.GroupFacts.{is_put, is_taken}
use Rattle.query_groups.proofs.groups.Groups.put_new.Goals as goal

pub gather-requires : goal.gather-requires
gather-requires c =
    let keep = running_values c.args.aggregates.now in
    let es = c.self.inside.entries.entries in
    let sought = c.args.keys.now in
    let absent = ap (lookup (same_values sought)) c.self.view_is ∙ c.requires.absent in
    let some : put keep es sought c.args.inputs.now ≢ None =
    subst (λ gs. put keep gs sought c.args.inputs.now ≢ None) (sym c.self.view_is) c.requires.fine in
    is_taken keep sought c.args.inputs.now es c.in_ok-totals.totals some
    (ap (λ o. unwrap_or o keep.start) absent ∙ sym c.in_ok-totals.ensures)

pub returns : goal.returns
returns c =
    let keep = running_values c.args.aggregates.now in
    let es = c.self.inside.entries.entries in
    let sought = c.args.keys.now in
    let new = c.put_behind.new.entries.entries in
    let absent = ap (lookup (same_values sought)) c.self.view_is ∙ c.requires.absent in
    let key : c.new-key.result ≡ sought = c.new-key.ensures ∙ c.in_ok-copies.ensures in
    OnOk-map c.put_behind.result _ _ (λ behind.
    subst (λ gs. put keep gs sought c.args.inputs.now ≡ Some new) c.self.view_is
    (is_put keep sought c.args.inputs.now es new c.in_ok-totals.totals c.gather.new.self
    (ap (λ o. unwrap_or o keep.start) absent ∙ sym c.in_ok-totals.ensures)
    c.in_ok-gather.ensures
    (behind ∙ ap (λ k. insert_entry same_values es k c.gather.new.self) key)))
    c.put_behind.ensures
