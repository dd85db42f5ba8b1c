use Rattle.std.proofs.Common.{◌≡◌, ◌-◌, ap, sym, take, ◌∙◌, arith}
use Rattle.std.specs.List.{slice_range}
use Rattle.query_values.specs.Component.{end_after}
use Rattle.query_values.proofs.ComponentFacts.{root_at}
use Rattle.query_values.proofs.component.root_of.Goals as goal

pub returns : goal.returns
returns c =
    let name = c.args.name.now in
    let end = end_after c.args.components name in
    let all : end - 0 ≡ end = omega arith in
    c.range.ensures.value
    ∙ ap (slice_range name 0) (c.end_of.ensures.place
    ∙ ap (end_after c.args.components) c.as_bytes.ensures.value)
    ∙ ap (λ n. take n name) all ∙ sym (root_at c.args.components name c.requires)
