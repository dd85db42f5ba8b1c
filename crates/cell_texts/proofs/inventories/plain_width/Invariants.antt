use Rattle.std.proofs.Common.{◌≡◌, ◌+◌, length}
use Rattle.posting_table.specs.Decimals.{decimals_of}
use Rattle.cell_texts.proofs.WidthFacts.{AreBare, widths}
use Rattle.cell_texts.proofs.inventories.plain_width.Given as goal

-- those so far have no lot, and the width is theirs
abbrev pub invariant-loop-key : goal.invariant-loop-key
invariant-loop-key l = record {
  width : l.width + widths (decimals_of l.display) l.places l.rest
      ≡ widths (decimals_of l.display) l.places l.held;
  bare : AreBare (decimals_of l.display) l.places l.rest
      → AreBare (decimals_of l.display) l.places l.held;
}

abbrev pub decreases-loop-key : goal.decreases-loop-key
decreases-loop-key l = length l.rest
