use Rattle.std.proofs.Common.{sym, ◌∙◌}
use Rattle.verify_programs.proofs.GatheredFacts.{total_more, wide_more}
use Rattle.verify_programs.proofs.ends.gathered.Goals.{in-Ok+in_ok-push-in-Ok, in-Err-TooWide}
use Rattle.verify_programs.proofs.ends.gathered.Goals as goal

pub loop-aggregate-preserved : goal.loop-aggregate-preserved
loop-aggregate-preserved c = elim c.match-aggregate_shape.branch [
  | in-Ok+in_ok-push-in-Ok w ↦
      total_more c.args.most _ _ _ c.loop-aggregate.totals _ c.args.aggregates.now
      c.loop-aggregate.aggregate-index _ _ _ _ c.loop-aggregate-test.true c.in-Some.ensures
      c.loop-aggregate.invariant w.in-Ok.shape (sym c.aggregate_shape.ensures ∙ w.in-Ok.is)
      w.is_wide-is (w.totals-is ∙ w.in_ok-push-in-Ok.ensures)
  | in-Err-TooWide w ↦
      wide_more c.args.most _ _ _ c.loop-aggregate.totals _ c.args.aggregates.now
      c.loop-aggregate.aggregate-index _ _ _ _ c.loop-aggregate-test.true c.in-Some.ensures
      c.loop-aggregate.invariant _ (sym c.aggregate_shape.ensures ∙ w.in-Err-TooWide.is)
      w.is_wide-is
]
