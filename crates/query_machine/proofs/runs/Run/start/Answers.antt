use Rattle.std.proofs.Common.{refl, sym}
use Rattle.posting_table.specs.Rows.{rows_of}
use Rattle.query_machine.proofs.Bounds.{starts_safely, starts_under_way, starts_without_fault}
use Rattle.query_machine.proofs.runs.Run.start.Goals as goal

pub start-requires-clause-safe : goal.start-requires-clause-safe
start-requires-clause-safe c =
    starts_safely c.args.program.now (rows_of c.args.ledger.now)
    (sym c.if-not-fits.ensures.fits) (c.if-not-fits.ensures.shaped refl) c.depth-depth.result
    c.depth-depth.ensures

pub invariant_of-result : goal.invariant_of-result
invariant_of-result c =
    starts_under_way c.args.program.now (rows_of c.args.ledger.now)
    (sym c.if-not-fits.ensures.fits) (c.if-not-fits.ensures.shaped refl) c.depth-depth.result
    c.depth-depth.ensures c.in_ok-run.run' c.in_ok-run.ensures.stands c.in_ok-run.ensures.built
    c.in_ok-run.ensures.room

pub returns : goal.returns
returns c = record {
  within = sym c.if-not-fits.ensures.fits;
  never_faults = starts_without_fault c.args.program.now (rows_of c.args.ledger.now)
      (sym c.if-not-fits.ensures.fits) (c.if-not-fits.ensures.shaped refl) c.depth-depth.result
      c.depth-depth.ensures;
  is = refl;
}
