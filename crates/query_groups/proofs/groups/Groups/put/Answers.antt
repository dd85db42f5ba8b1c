use Rattle.std.proofs.Common.{◌≡◌, ◌≢◌, None, Some, ap, sym, subst, ◌∙◌, unwrap_or}
use Rattle.indexmap.proofs.MapLemmas.{Found-position, Missing-position, OnOk-map, insert_entry-first}
use Rattle.indexmap.specs.IndexMap.{set_value_at}
use Rattle.plain_machine.specs.Gathering.{put, running_values}
use Rattle.query_rows.specs.Same.{same_values}
use Rattle.query_groups.proofs.GroupFacts.{is_put, is_taken}
use Rattle.query_groups.proofs.groups.Groups.put.Goals as goal

pub put_new-requires-clause-absent : goal.put_new-requires-clause-absent
put_new-requires-clause-absent c =
    (Missing-position (same_values c.args.keys.now) c.self.inside.entries.entries
    (sym c.in_default.ensures)).value

pub index_mut-requires : goal.index_mut-requires
index_mut-requires c =
    (Found-position (same_values c.args.keys.now) c.self.inside.entries.entries c.in-Some.number
    (sym c.in-Some.ensures)).within

pub gather-requires : goal.gather-requires
gather-requires c =
    let keep = running_values c.args.aggregates.now in
    let es = c.self.inside.entries.entries in
    let sought = c.args.keys.now in
    let at = Found-position (same_values sought) es c.in-Some.number (sym c.in-Some.ensures) in
    let some : put keep es sought c.args.inputs.now ≢ None =
    subst (λ gs. put keep gs sought c.args.inputs.now ≢ None) (sym c.self.view_is) c.requires in
    is_taken keep sought c.args.inputs.now es c.index_mut.result.now some
    (ap (λ o. unwrap_or o keep.start) (at.value ∙ c.index_mut.ensures.value))

pub returns : goal.returns
returns c =
    let keep = running_values c.args.aggregates.now in
    let es = c.self.inside.entries.entries in
    let sought = c.args.keys.now in
    let y = c.gather.new.self in
    let at = Found-position (same_values sought) es c.in-Some.number (sym c.in-Some.ensures) in
    let new = set_value_at es c.in-Some.number y in
    let given = ap (λ o. unwrap_or o keep.start) (at.value ∙ c.index_mut.ensures.value) in
    OnOk-map c.gather.result _ _ (λ made.
    subst (λ gs. put keep gs sought c.args.inputs.now ≡ Some new) c.self.view_is
    (is_put keep sought c.args.inputs.now es new c.index_mut.result.now y given made
    (sym (insert_entry-first same_values sought y es c.in-Some.number at.first))))
    c.gather.ensures
