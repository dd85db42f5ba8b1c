use Rattle.std.proofs.Common.{◌≡◌, ◌-◌, length}
use Rattle.bean_transactions.specs.Lines.{IsKeeping}
use Rattle.bean_transactions.proofs.lines.Lines.note_takes.Given as goal

abbrev pub invariant-loop-self : goal.invariant-loop-self
invariant-loop-self l = record {
  lines : l.self.lines.items ≡ l.initial.self.lines.items;
  keeping : IsKeeping l.holdings l.self;
}

abbrev pub decreases-loop-self : goal.decreases-loop-self
decreases-loop-self l = length l.self.lines.items - l.self.noted
