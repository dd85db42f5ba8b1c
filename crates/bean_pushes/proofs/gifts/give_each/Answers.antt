use Rattle.std.proofs.Common.{◌+◌, ◌<◌, ◌≤◌, ◌∙◌, sym, ap, length, arith}
use Rattle.std.proofs.lemmas.Grind.{common_steps}
use Rattle.bean_directives.specs.Given.{with_given}
use Rattle.given_items.specs.Given.{given_at}
use Rattle.bean_pushes.proofs.GiftFacts.{all_left, left_next, none_left}
use Rattle.bean_pushes.proofs.gifts.give_each.Goals as goal

pub loop-i-init : goal.loop-i-init
loop-i-init c = all_left c.args.tags.now c.args.entries.now c.args.directives.now.items

pub loop-i-preserved : goal.loop-i-preserved
loop-i-preserved c =
    let k = c.loop-i.i in
    let ts = c.args.tags.now in
    let es = c.args.entries.now in
    let ds = c.loop-i.directives.items in
    let inside : k < length ds = grind (arith, common_steps, c.len.ensures, c.loop-i-test.true) in
    let is =
    c.in_ok-give_shared.ensures
    ∙ ap (with_given (given_at k ts) (given_at k es)) c.index_mut.ensures.value in
    left_next ts es k (k + 1) ds _ _ (omega arith) inside is ∙ c.loop-i.invariant

pub returns : goal.returns
returns c =
    let k = c.loop-i.i in
    let ds = c.loop-i.directives.items in
    let past : length ds ≤ k = grind (arith, common_steps, c.len.ensures, c.loop-i-test.false) in
    sym (none_left c.args.tags.now c.args.entries.now k 0 ds (omega (arith, past)))
    ∙ c.loop-i.invariant
