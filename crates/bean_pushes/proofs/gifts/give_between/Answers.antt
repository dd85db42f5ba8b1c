use Rattle.std.proofs.Common.{◌≤◌, ◌<◌, ◌∙◌, sym, ap, length, arith}
use Rattle.std.proofs.lemmas.Grind.{common_steps}
use Rattle.bean_directives.specs.Given.{with_pushed}
use Rattle.bean_pushes.proofs.ScopeFacts.{given_next, given_past, reach}
use Rattle.bean_pushes.proofs.gifts.give_between.Goals as goal

pub loop-i-preserved : goal.loop-i-preserved
loop-i-preserved c =
    let inside : c.loop-i.i < length c.loop-i.directives.items =
    grind (arith, common_steps, c.len.ensures, c.if-i-len.true) in
    let is = c.in_ok-give.ensures ∙ ap (with_pushed c.args.pushed.now) c.index_mut.ensures.value in
    given_next c.args.pushed.now c.loop-i.i c.args.to _ c.loop-i.directives.items _ _ (omega arith)
    c.loop-i-test.true inside is ∙ c.loop-i.invariant

pub returns-else-i-len : goal.returns-else-i-len
returns-else-i-len c =
    let past : length c.loop-i.directives.items ≤ c.loop-i.i =
    grind (arith, common_steps, c.len.ensures, c.if-i-len.false) in
    sym (given_past c.args.pushed.now c.loop-i.i c.args.to 0 c.loop-i.directives.items
    (omega (arith, past))) ∙ c.loop-i.invariant

pub returns-after-loop-i : goal.returns-after-loop-i
returns-after-loop-i c =
    sym (reach c.args.pushed.now c.loop-i.i c.args.to c.loop-i.directives.items c.loop-i-test.false)
    ∙ c.loop-i.invariant
