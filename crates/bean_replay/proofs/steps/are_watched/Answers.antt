use Rattle.std.proofs.Common.{◌∙◌, ap, arith, sym}
use Rattle.bean_replay.specs.Watched.{is_watching}
use Rattle.bean_replay.proofs.WatchFacts.{one_unwatched}
use Rattle.bean_replay.proofs.steps.are_watched.Goals as goal

pub loop-directive-preserved : goal.loop-directive-preserved
loop-directive-preserved c =
    one_unwatched c.args.directives.now c.loop-directive.directive-index c.directive-item.result
    (omega arith) c.directive-item.is
    (sym (c.is_watching.ensures ∙ ap is_watching c.kind_of.ensures) ∙ c.if-is_watching.false)
    c.loop-directive.invariant
