use Rattle.std.proofs.Common.{sym, ◌∙◌}
use Rattle.bql_code.proofs.DepthFacts.{none_left, not_left}
use Rattle.bql_code.proofs.room.are_within.Goals.{then-room-eq0-via-then-room-eq0}
use Rattle.bql_code.proofs.room.are_within.Goals.{then-room-eq0-via-else-room-eq0+then-not-is_within}
use Rattle.bql_code.proofs.room.are_within.Goals as goal

pub returns-then-room-eq0 : goal.returns-then-room-eq0
returns-then-room-eq0 c =
    let l = c.loop-core in
    let x = c.core-item.result in
    elim c.then-room-eq0.branch [
      | then-room-eq0-via-then-room-eq0 w ↦
          none_left c.args.most l.room c.args.cores.now l.core-index x c.loop-core-test.true
          c.core-item.is w.if-room-eq0.true ∙ l.invariant.1
      | then-room-eq0-via-else-room-eq0+then-not-is_within w ↦
          not_left c.args.most l.room c.args.cores.now l.core-index x c.loop-core-test.true
          c.core-item.is l.invariant.0 (sym w.is_within.ensures ∙ w.if-not-is_within.true)
          ∙ l.invariant.1
    ]
