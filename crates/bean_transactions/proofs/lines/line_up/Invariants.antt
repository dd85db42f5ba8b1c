use Rattle.std.proofs.Common.{reverse, take}
use Rattle.bean_transactions.specs.Lined.{AreLined, Setting}
use Rattle.bean_transactions.specs.Lines.{IsKeeping, IsSettled}
use Rattle.bean_transactions.proofs.lines.line_up.Given as goal

abbrev pub invariant-loop-index : goal.invariant-loop-index
invariant-loop-index l = record {
  keeping : IsKeeping l.holdings l.lines;
  lined : (s : Setting) → IsSettled s l.holdings l.methods l.head
      → AreLined s (reverse (take l.index l.postings)) l.lines.lines.items;
}
