use Rattle.std.proofs.Common.{◌+◌, ◌∙◌, refl, sym, subst, arith}
use Rattle.query_runs.specs.Stands.{rows_in, stand_of}
use Rattle.query_runs.proofs.Turning.{goes_further, safe_further}
use Rattle.query_runs.specs.Turns.{IsSafe}
use Rattle.query_runs.proofs.going.go_on.Goals as goal

pub stage_on-requires-clause-safe : goal.stage_on-requires-clause-safe
stage_on-requires-clause-safe c =
    let p = c.args.input.now.parts.now in
    let old = stand_of (rows_in c.args.input.now) c.args.run.now in
    let new = stand_of (rows_in c.args.input.now) c.loop-alloc.run in
    subst (IsSafe p new) (sym c.loop-alloc.invariant.room)
    (safe_further p c.args.run.now.frame.stack.room c.loop-alloc.made old new c.requires.safe
    c.loop-alloc.invariant.goes.comes)

pub loop-alloc-preserved : goal.loop-alloc-preserved
loop-alloc-preserved c = record {
  few = let few = c.in_ok-made.ensures.few in omega (arith, few);
  goes = goes_further c.args.input.now.parts.now c.loop-alloc.made c.in_ok-made.field-0
      (c.loop-alloc.made + c.in_ok-made.field-0)
      (stand_of (rows_in c.args.input.now) c.args.run.now)
      (stand_of (rows_in c.args.input.now) c.loop-alloc.run)
      (stand_of (rows_in c.args.input.now) c.stage_on.new.run) refl c.loop-alloc.invariant.goes
      c.in_ok-made.ensures.goes;
  finders = c.stage_on.ensures.finders ∙ c.loop-alloc.invariant.finders;
  room = c.stage_on.ensures.room ∙ c.loop-alloc.invariant.room;
}
