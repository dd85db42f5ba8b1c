use Rattle.std.proofs.Common.{◌≡◌, ◌-◌, arith, subst}
use Rattle.query_answer.proofs.PlaceFacts.{PartSwapped, all_swapped, apart_by_width, one_swapped}
use Rattle.query_answer.proofs.places.swap_rows.Goals as goal

pub loop-i-preserved : goal.loop-i-preserved
loop-i-preserved c =
    let s = c.args.s in
    let t = c.args.t in
    let end = c.loop-i-test.true in
    one_swapped s.start t.start (s.end - s.start) c.loop-i.i
    (apart_by_width s t c.requires.s_up c.requires.t_up c.requires.even c.requires.apart)
    (omega (arith, end)) c.args.values.now c.loop-i.values c.swap.new.self c.loop-i.invariant
    c.swap.ensures.by_index c.swap.ensures.len

pub returns : goal.returns
returns c =
    let s = c.args.s in
    let t = c.args.t in
    let most = c.loop-i.auto.i-end in
    let least = c.loop-i-test.false in
    let up = c.requires.s_up in
    all_swapped s t c.args.values.now c.loop-i.values c.requires.s_up c.requires.s_inside
    c.requires.t_up c.requires.t_inside c.requires.even
    (subst (λ i. PartSwapped s.start t.start i c.args.values.now c.loop-i.values)
    (let e : c.loop-i.i ≡ s.end - s.start = omega (arith, most, least, up) in e) c.loop-i.invariant)
