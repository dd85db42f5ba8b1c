use Rattle.std.proofs.Common.{◌+◌, ◌∙◌, sym, ap, drop, take, arith}
use Rattle.std.proofs.Common.{◌++◌, []}
use Rattle.bean_pushes.specs.Scope.{open_pushes, unmatched}
use Rattle.bean_pushes.proofs.MatchFacts.{few_reaches, one_unmatched, open_next, reach_is}
use Rattle.bean_pushes.proofs.MatchFacts.{take_next}
use Rattle.bean_pushes.proofs.scope.add_unmatched.Goals as goal

pub bounds-reaches-i : goal.bounds-reaches-i
bounds-reaches-i c =
    few_reaches c.args.bounds.now c.args.reaches.now c.loop-i.i c.requires c.loop-i-test.true

pub loop-i-preserved : goal.loop-i-preserved
loop-i-preserved c =
    let bounds = c.args.bounds.now in
    let i = c.loop-i.i in
    let b = c.index-bounds-i.result in
    let inside = c.loop-i-test.true in
    let told =
    c.is_matched-matched.ensures (take i bounds) (drop (i + 1) bounds)
    (reach_is bounds c.args.reaches.now i (i + 1) b _ c.requires (omega arith) inside
    c.index-bounds-i.is)
    c.loop-i.invariant.pushes in
    record {
      left = ap (λ fs. fs ++ unmatched (take (i + 1) bounds) (drop (i + 1) bounds))
          c.in_ok-note_unless.ensures
          ∙ one_unmatched bounds i b c.is_matched-matched.result c.loop-i.faults.items _ inside
          c.index-bounds-i.is told c.loop-i.invariant.left;
      pushes = λ n. open_next n (take i bounds) b _ _ (c.in_ok-take.ensures n)
          (c.loop-i.invariant.pushes n)
          ∙ sym (ap (open_pushes n [])
          (take_next bounds i (i + 1) b (omega arith) inside c.index-bounds-i.is));
      inside = omega (arith, inside);
    }
