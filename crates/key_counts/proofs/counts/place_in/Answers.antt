use Rattle.std.proofs.Common.{◌≡◌, ◌∙◌, Some, length, refl, slice_get, sym, subst, add-one, arith}
use Rattle.std.proofs.lemmas.List.{take_all}
use Rattle.std.proofs.lemmas.Option.{slice_get_read}
use Rattle.key_counts.proofs.PlaceFacts.{IsNoneOf, none_found, none_more, place_found}
use Rattle.key_counts.proofs.counts.place_in.Goals as goal

pub returns-then-equivalent : goal.returns-then-equivalent
returns-then-equivalent g c =
    let es = c.args.slots.now in
    let i = c.loop-place.place in
    let at : slice_get es i ≡ Some c.index-slots-place.result =
    slice_get_read es (length es) i _ refl c.loop-place-test.true c.index-slots-place.is in
    sym
    (place_found (g.Q.Equivalent.equivalent c.args.key) es i c.index-slots-place.result
    c.loop-place.invariant at (sym c.equivalent.ensures ∙ c.if-equivalent.true))

pub loop-place-preserved : goal.loop-place-preserved
loop-place-preserved g c =
    let es = c.args.slots.now in
    let i = c.loop-place.place in
    let at : slice_get es i ≡ Some c.index-slots-place.result =
    slice_get_read es (length es) i _ refl c.loop-place-test.true c.index-slots-place.is in
    rw add-one
    (none_more (g.Q.Equivalent.equivalent c.args.key) es i c.index-slots-place.result
    c.loop-place.invariant at (sym c.equivalent.ensures ∙ c.if-equivalent.false))

pub returns : goal.returns
returns g c =
    let t = g.Q.Equivalent.equivalent c.args.key in
    let es = c.args.slots.now in
    let end = c.loop-place-test.false in
    sym
    (none_found t es
    (subst (IsNoneOf t) (take_all c.loop-place.place es (omega (arith, end)))
    c.loop-place.invariant))
