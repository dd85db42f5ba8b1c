use Rattle.std.proofs.Common.{ℕ, ◌<◌, ◌≤◌, ◌++◌, append_assoc, arith, ap, reverse, subst, sym, take}
use Rattle.std.proofs.Common.{◌∙◌}
use Rattle.std.proofs.lemmas.List.{append-nil, take_all}
use Rattle.bean_pad.specs.Checking.{Checks, found_at}
use Rattle.bean_pad.specs.Trail.{failing_on}
use Rattle.bean_pad.proofs.BoundFacts.{near_at}
use Rattle.bean_pad.proofs.TrailFacts.{failing_more, one_more}
use Rattle.bean_pad.proofs.check.add_failing.Goals as goal

below : {pads index len most : ℕ} → pads ≤ index → index < len → len ≤ most → pads ≤ most
below p q r = omega arith

pub loop-passed-preserved : goal.loop-passed-preserved
loop-passed-preserved c =
    let ps = c.args.pads.now in
    let t = c.passed-item.result in
    let before = reverse (take c.loop-passed.passed-index c.args.trail.now) in
    let checks = c.loop-passed.invariant.checks in
    let more =
    one_more c.args.trail.now c.loop-passed.passed-index t (omega arith) c.passed-item.is in
    record {
      checks = subst (λ ts. Checks ps ts c.pass.new.self) (sym more)
          (c.in_ok-pass.ensures.checks before checks);
      room = c.in_ok-pass.ensures.room;
      near = let one = c.in_ok-pass.ensures.pads in let so_far = c.loop-passed.invariant.near in
          omega arith;
      faults =
          c.in_ok-pass.ensures.faults before checks
          ∙ ap (λ l. l ++ found_at ps before t) c.loop-passed.invariant.faults
          ∙ append_assoc c.args.faults.now.items (failing_on ps before) (found_at ps before t)
          ∙ ap (λ l. c.args.faults.now.items ++ l)
          (failing_more ps before t ∙ ap (failing_on ps) (sym more));
    }

pub loop-passed-init : goal.loop-passed-init
loop-passed-init c = record {
  checks = c.new-checker.ensures.checks c.args.pads.now;
  room = c.new-checker.ensures.room c.args.pads.now;
  near = omega (arith, c.new-checker.ensures.pads);
  faults = sym (append-nil c.args.faults.now.items);
}

pub pass-requires-clause-near : goal.pass-requires-clause-near
pass-requires-clause-near c =
    below c.loop-passed.invariant.near c.loop-passed-test.true c.requires.short

pub pass-requires-clause-narrow : goal.pass-requires-clause-narrow
pass-requires-clause-narrow c =
    near_at c.args.trail.now c.loop-passed.passed-index c.passed-item.result c.requires.near
    c.loop-passed-test.true c.passed-item.is

pub returns : goal.returns
returns c =
    c.loop-passed.invariant.faults
    ∙ ap (λ ts. c.args.faults.now.items ++ failing_on c.args.pads.now (reverse ts))
    (take_all c.loop-passed.passed-index c.args.trail.now c.loop-passed-test.false)
