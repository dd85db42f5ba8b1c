use Rattle.std.proofs.Common.{◌<◌, ◌-◌, ◌∙◌, sym, ap, reverse, length, drop, arith}
use Rattle.std.proofs.Common.{◌≡◌, ◌∷◌}
use Rattle.std.proofs.lemmas.List.{length-drop, reverse-append}
use Rattle.bean_pushes.specs.Matches.{ahead_of, reaches_of}
use Rattle.bean_pushes.specs.Scope.{name_in, reach_of}
use Rattle.bean_pushes.proofs.MatchFacts.{drop_is, few_ahead}
use Rattle.bean_pushes.proofs.matches.reaches.Goals as goal

pub loop-i-preserved : goal.loop-i-preserved
loop-i-preserved c =
    let bounds = c.args.bounds.now in
    let i = c.loop-i.i - 1 in
    let inside : i < length bounds =
    omega (arith, c.loop-i.invariant.inside, c.loop-i-test.true) in
    let b = c.index-bounds-i.result in
    let cut : drop i bounds ≡ b ∷ drop c.loop-i.i bounds =
    drop_is bounds i c.loop-i.i b (omega (arith, c.loop-i-test.true)) inside c.index-bounds-i.is in
    let one = c.in_ok-take.ensures (drop c.loop-i.i bounds) c.loop-i.invariant.are in
    record {
      are = λ n. one.0 n ∙ sym (ap (ahead_of n) cut);
      found = ap reverse c.in_ok-push.ensures.items
          ∙ reverse-append c.loop-i.found.items _
          ∙ ap (λ p. p ∷ reverse c.loop-i.found.items) one.1
          ∙ ap (λ ps. reach_of (name_in b.bound) (drop c.loop-i.i bounds) ∷ ps)
          c.loop-i.invariant.found
          ∙ sym (ap reaches_of cut);
      inside = omega (arith, inside);
    }

pub take-requires : goal.take-requires
take-requires c = λ n.
    let bounds = c.args.bounds.now in
    let left = length-drop c.loop-i.i bounds in
    few_ahead (drop c.loop-i.i bounds) n _ (c.loop-i.invariant.are n)
    (grind (arith, left, c.loop-i-test.true, c.args.bounds.now))
