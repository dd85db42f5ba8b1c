use Rattle.std.proofs.Common.{◌≡◌, ◌≤◌, ◌-◌, length}
use Rattle.plain_machine.specs.SectionRun.{after_steps}
use Rattle.query_sections.specs.Reading.{acts_of}
use Rattle.query_sections.specs.Room.{AreInside}
use Rattle.query_sections.specs.Standing.{standing}
use Rattle.query_sections.proofs.running.go_on.Given as goal

abbrev pub invariant-loop-made : goal.invariant-loop-made
invariant-loop-made l = record {
  few : l.made ≤ l.most;
  stands : standing l.frame
      ≡ after_steps l.section.instructions.now (acts_of l.section.pool.now l.loads) l.made
      (standing l.fn.frame);
  inside : AreInside l.section.instructions.now (acts_of l.section.pool.now l.loads) l.made
      (standing l.fn.frame);
  within : l.frame.place ≤ length l.section.instructions.now;
  room : l.frame.stack.room ≡ l.fn.frame.stack.room;
  same : l.finders ≡ l.fn.finders;
}

abbrev pub decreases-loop-made : goal.decreases-loop-made
decreases-loop-made l = l.most - l.made
