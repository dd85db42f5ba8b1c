use Rattle.std.proofs.Common.{◌∙◌, ap, length, subst, sym, arith}
use Rattle.query_runs.specs.Stands.{rows_in, stand_of}
use Rattle.query_runs.specs.Turns.{IsSafe}
use Rattle.query_runs.proofs.FilterStage.{at_end, before_end, end_fine}
use Rattle.query_runs.proofs.Turning.{safe_further}
use Rattle.query_runs.proofs.going.filter_on.Goals as goal

pub at_posting-requires-clause-safe : goal.at_posting-requires-clause-safe
at_posting-requires-clause-safe c =
    let p = c.args.input.now.parts.now in
    let old = stand_of (rows_in c.args.input.now) c.args.run.now in
    let new = stand_of (rows_in c.args.input.now) c.loop-made.run in
    subst (IsSafe p new) (sym c.loop-made.invariant.room)
    (safe_further p c.args.run.now.frame.stack.room c.loop-made.made old new c.requires.safe
    c.loop-made.invariant.goes.comes)

pub returns-then-run-section-clause-goes : goal.returns-then-run-section-clause-goes
returns-then-run-section-clause-goes c =
    before_end c.args.input.now.parts.now (rows_in c.args.input.now) c.loop-made.made
    c.in_ok-made.field-0 (stand_of (rows_in c.args.input.now) c.args.run.now)
    (stand_of (rows_in c.args.input.now) c.loop-made.run) c.at_posting.new.run
    c.loop-made.invariant.goes c.in_ok-made.ensures.went
    (λ end. c.if-run-section.true (end ∙ sym (ap length c.as_slice.ensures)))

pub fails-requires-clause-fine : goal.fails-requires-clause-fine
fails-requires-clause-fine c =
    end_fine c.args.input.now.parts.now (rows_in c.args.input.now) c.loop-made.made
    c.in_ok-made.field-0 (stand_of (rows_in c.args.input.now) c.args.run.now)
    (stand_of (rows_in c.args.input.now) c.loop-made.run) c.at_posting.new.run
    c.loop-made.invariant.goes c.in_ok-made.ensures.went
    c.args.run.now.frame.stack.room c.requires.safe (c.if-run-section.false ∙ ap length c.as_slice.ensures)

pub pass-requires-clause-fine : goal.pass-requires-clause-fine
pass-requires-clause-fine c = λ fault.
    end_fine c.args.input.now.parts.now (rows_in c.args.input.now) c.loop-made.made
    c.in_ok-made.field-0 (stand_of (rows_in c.args.input.now) c.args.run.now)
    (stand_of (rows_in c.args.input.now) c.loop-made.run) c.at_posting.new.run
    c.loop-made.invariant.goes c.in_ok-made.ensures.went
    c.args.run.now.frame.stack.room c.requires.safe (c.if-run-section.false ∙ ap length c.as_slice.ensures)
    (c.fails.ensures.passes c.if-not-fails.true ∙ fault)

pub returns-then-not-fails-clause-goes : goal.returns-then-not-fails-clause-goes
returns-then-not-fails-clause-goes c =
    at_end c.args.input.now.parts.now (rows_in c.args.input.now) c.loop-made.made
    c.in_ok-made.field-0 (stand_of (rows_in c.args.input.now) c.args.run.now)
    (stand_of (rows_in c.args.input.now) c.loop-made.run) c.at_posting.new.run
    c.loop-made.invariant.goes c.in_ok-made.ensures.went _
    (c.if-run-section.false ∙ ap length c.as_slice.ensures)
    (c.in_ok-pass.ensures.stand ∙ sym (c.fails.ensures.passes c.if-not-fails.true))

pub start_row-requires : goal.start_row-requires
start_row-requires c = λ fault.
    end_fine c.args.input.now.parts.now (rows_in c.args.input.now) c.loop-made.made
    c.in_ok-made.field-0 (stand_of (rows_in c.args.input.now) c.args.run.now)
    (stand_of (rows_in c.args.input.now) c.loop-made.run) c.at_posting.new.run
    c.loop-made.invariant.goes c.in_ok-made.ensures.went
    c.args.run.now.frame.stack.room c.requires.safe (c.if-run-section.false ∙ ap length c.as_slice.ensures)
    (c.fails.ensures.fails c.if-not-fails.false ∙ fault)

pub returns-then-run-len-clause-goes : goal.returns-then-run-len-clause-goes
returns-then-run-len-clause-goes c =
    at_end c.args.input.now.parts.now (rows_in c.args.input.now) c.loop-made.made
    c.in_ok-made.field-0 (stand_of (rows_in c.args.input.now) c.args.run.now)
    (stand_of (rows_in c.args.input.now) c.loop-made.run) c.at_posting.new.run
    c.loop-made.invariant.goes c.in_ok-made.ensures.went _
    (c.if-run-section.false ∙ ap length c.as_slice.ensures)
    (c.in_ok-start_row.ensures.stand ∙ sym (c.fails.ensures.fails c.if-not-fails.false))

pub start_filter-requires-clause-fine : goal.start_filter-requires-clause-fine
start_filter-requires-clause-fine c = λ fault.
    end_fine c.args.input.now.parts.now (rows_in c.args.input.now) c.loop-made.made
    c.in_ok-made.field-0 (stand_of (rows_in c.args.input.now) c.args.run.now)
    (stand_of (rows_in c.args.input.now) c.loop-made.run) c.at_posting.new.run
    c.loop-made.invariant.goes c.in_ok-made.ensures.went
    c.args.run.now.frame.stack.room c.requires.safe (c.if-run-section.false ∙ ap length c.as_slice.ensures)
    (c.fails.ensures.fails c.if-not-fails.false ∙ fault)

pub loop-made-preserved : goal.loop-made-preserved
loop-made-preserved c = record {
  few = let few = c.in_ok-made.ensures.few in omega (arith, few);
  stage = c.in_ok-start_filter.ensures.stage;
  goes = at_end c.args.input.now.parts.now (rows_in c.args.input.now) c.loop-made.made
      c.in_ok-made.field-0 (stand_of (rows_in c.args.input.now) c.args.run.now)
      (stand_of (rows_in c.args.input.now) c.loop-made.run) c.at_posting.new.run
      c.loop-made.invariant.goes c.in_ok-made.ensures.went _
      (c.if-run-section.false ∙ ap length c.as_slice.ensures)
      (c.in_ok-start_filter.ensures.stand
      ∙ sym (c.fails.ensures.fails c.if-not-fails.false));
  finders = c.start_filter.ensures.finders ∙ c.fails.ensures.finders
      ∙ c.at_posting.ensures.finders ∙ c.loop-made.invariant.finders;
  room = c.start_filter.ensures.room ∙ c.fails.ensures.room ∙ c.at_posting.ensures.room
      ∙ c.loop-made.invariant.room;
}
