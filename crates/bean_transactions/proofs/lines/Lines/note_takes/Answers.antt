use Rattle.std.proofs.Common.{◌+◌, arith, subst, sym, take}
use Rattle.bean_transactions.specs.Held.{takes_in}
use Rattle.bean_holdings.specs.Takes.{AreWithin, HasTaken}
use Rattle.bean_transactions.proofs.HeldFacts.{one_more_noted}
use Rattle.bean_transactions.proofs.WithinFacts.{noted_within}
use Rattle.bean_transactions.proofs.lines.Lines.note_takes.Goals as goal

pub note_line-requires-clause-within : goal.note_line-requires-clause-within
note_line-requires-clause-within c =
    let h = c.args.holdings.now in
    let ls = c.loop-self.self.lines.items in
    let n = c.loop-self.self.noted in
    let keeping = c.loop-self.invariant.keeping in (
      takes_in (take n ls),
      keeping.noted,
      subst (AreWithin h) (one_more_noted ls n c.index.result.now (omega arith) c.index.ensures)
          (noted_within h ls (n + 1) keeping.within),
    )

pub loop-self-preserved : goal.loop-self-preserved
loop-self-preserved c =
    let h = c.args.holdings.now in
    let ls = c.loop-self.self.lines.items in
    let n = c.loop-self.self.noted in
    let keeping = c.loop-self.invariant.keeping in
    let more = one_more_noted ls n c.index.result.now (omega arith) c.index.ensures in
    record {
      lines = c.loop-self.invariant.lines;
      keeping = record {
        few = omega arith;
        noted =
            subst (λ ps. HasTaken h ps c.note_line.new.takes) (sym more)
            (c.in_ok-note_line.ensures (takes_in (take n ls)) keeping.noted
            (subst (AreWithin h) more (noted_within h ls (n + 1) keeping.within)));
        within = keeping.within;
      };
    }
