use Rattle.std.proofs.Common.{◌++◌, take, arith, sym, subst}
use Rattle.bean_replay.specs.Stand.{posting_step, steps_of_postings}
use Rattle.bean_pad.specs.Following.{Follows}
use Rattle.bean_replay.proofs.StepFacts.{latest_mapped}
use Rattle.bean_replay.proofs.steps.show_postings.Goals as goal

pub loop-one-preserved : goal.loop-one-preserved
loop-one-preserved c =
    let posted = c.args.posted.now in
    let i = c.loop-one.one-index in
    let item = c.one-item.result in record {
      near = c.in_ok-post.ensures.bounded;
      steps =
          let was = c.loop-one.invariant.steps in
          let more = c.in_ok-post.ensures.steps in omega arith;
      follows = λ past follows.
          let before = steps_of_postings (take i posted) ++ past in
          subst (λ l. Follows (l ++ past) c.post.new.self)
          (sym (latest_mapped posting_step posted i item (omega arith) c.one-item.is))
          (c.in_ok-post.ensures.follows before (c.loop-one.invariant.follows past follows));
    }
