use Rattle.std.proofs.Common.{◌≡◌, ◌<◌, ◌+◌, ap, sym, count_by, drop, length, get_or, ◌∙◌, arith}
use Rattle.std.proofs.lemmas.Str.{IsCharBoundary-after_ascii}
use Rattle.bean_base.specs.Name.{is_colon}
use Rattle.query_values.specs.Component.{end_after}
use Rattle.query_values.proofs.ComponentFacts.{leaf_at, whole_leaf, inside}
use Rattle.query_values.proofs.component.leaf_of.Goals as goal

pub returns-then-colons-eq0 : goal.returns-then-colons-eq0
returns-then-colons-eq0 c =
    sym (whole_leaf c.args.name.now
    (ap (count_by is_colon) (sym c.as_bytes.ensures.value) ∙ sym c.colons_in-colons.ensures
    ∙ c.if-colons-eq0.true))

pub range_from-requires : goal.range_from-requires
range_from-requires c =
    let name = c.args.name.now in
    let count = c.colons_in-colons.ensures ∙ ap (count_by is_colon) c.as_bytes.ensures.value in
    let some : 0 < c.colons_in-colons.result = omega arith in
    let place =
    c.end_of-end.ensures.place
    ∙ ap (end_after c.colons_in-colons.result) c.as_bytes-2.ensures.value in
    let below : c.end_of-end.result < length name =
    omega (arith, place, inside name c.colons_in-colons.result some (omega (arith, count))) in
    let inside_bytes : c.end_of-end.result < length c.as_bytes-2.result.now =
    omega (arith, below, ap length c.as_bytes-2.ensures.value) in
    let byte : get_or name c.end_of-end.result 0 ≡ 58 =
    ap (λ l. get_or l c.end_of-end.result 0) (sym c.as_bytes-2.ensures.value)
    ∙ c.end_of-end.ensures.colon inside_bytes in
    λ _. IsCharBoundary-after_ascii name c.end_of-end.result c.utf8.name below (omega (arith, byte))

pub returns : goal.returns
returns c =
    let name = c.args.name.now in
    let count = c.colons_in-colons.ensures ∙ ap (count_by is_colon) c.as_bytes.ensures.value in
    let some : 0 < c.colons_in-colons.result = omega arith in
    let place =
    c.end_of-end.ensures.place
    ∙ ap (end_after c.colons_in-colons.result) c.as_bytes-2.ensures.value in
    c.range_from.ensures.value ∙ ap (λ n. drop (n + 1) name) place
    ∙ sym (leaf_at name c.colons_in-colons.result (sym count) some)
