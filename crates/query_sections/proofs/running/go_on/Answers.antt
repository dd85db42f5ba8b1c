use Rattle.std.proofs.Common.{ap, subst, sym, ◌∙◌, arith}
use Rattle.plain_machine.specs.SectionRun.{one_step}
use Rattle.query_sections.proofs.StepFacts.{inside_more, one_more, room_more}
use Rattle.query_sections.specs.Reading.{acts_of}
use Rattle.query_sections.specs.Room.{OutcomeHasRoom}
use Rattle.query_sections.specs.Standing.{standing}
use Rattle.query_sections.proofs.running.go_on.Goals as goal

pub step-requires-clause-room : goal.step-requires-clause-room
step-requires-clause-room c =
    let code = c.args.section.now.instructions.now in
    let m = acts_of c.args.section.now.pool.now c.args.loads.now in
    subst (λ room. OutcomeHasRoom room (one_step code m (standing c.loop-made.frame)))
    (sym c.loop-made.invariant.room)
    (room_more code m (standing c.args.frame.now) c.args.frame.now.stack.room c.loop-made.made
    (standing c.loop-made.frame) c.requires.safe c.loop-made.invariant.stands)

pub loop-made-preserved : goal.loop-made-preserved
loop-made-preserved c =
    let code = c.args.section.now.instructions.now in
    let m = acts_of c.args.section.now.pool.now c.args.loads.now in
    let start = standing c.args.frame.now in
    record {
      few = omega arith;
      stands = one_more code m start c.loop-made.made (standing c.step.new.frame)
          (c.in_ok-step.ensures.stands ∙ ap (one_step code m) c.loop-made.invariant.stands);
      inside = inside_more code m start c.loop-made.made (standing c.loop-made.frame)
          c.loop-made.invariant.inside c.loop-made.invariant.stands c.if-frame-section.true;
      within = c.in_ok-step.ensures.within;
      room = c.step.ensures.room ∙ c.loop-made.invariant.room;
      same = c.step.ensures.same ∙ c.loop-made.invariant.same;
    }
