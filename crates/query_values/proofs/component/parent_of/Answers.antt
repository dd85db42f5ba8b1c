use Rattle.std.proofs.Common.{ap, sym, count_by, ◌∙◌}
use Rattle.bean_base.specs.Name.{is_colon}
use Rattle.query_values.specs.Component.{root_part}
use Rattle.query_values.proofs.ComponentFacts.{parent_at, no_parent}
use Rattle.query_values.proofs.component.parent_of.Goals as goal

pub returns-then-colons-eq0 : goal.returns-then-colons-eq0
returns-then-colons-eq0 c =
    sym (no_parent c.args.name.now
    (ap (count_by is_colon) (sym c.as_bytes.ensures.value) ∙ sym c.colons_in-colons.ensures
    ∙ c.if-colons-eq0.true))

pub returns : goal.returns
returns c =
    let count = c.colons_in-colons.ensures ∙ ap (count_by is_colon) c.as_bytes.ensures.value in
    c.root_of.ensures ∙ ap (λ n. root_part n c.args.name.now) count
    ∙ sym (parent_at c.args.name.now)
