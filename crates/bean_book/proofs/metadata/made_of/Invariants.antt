use Rattle.std.proofs.Common.{◌≡◌, ◌++◌, length, map}
use Rattle.bean_book.specs.Metadata.{item_of}
use Rattle.bean_book.proofs.metadata.made_of.Given as goal

abbrev pub invariant-loop-entry : goal.invariant-loop-entry
invariant-loop-entry l = l.items.items ++ map item_of l.rest ≡ map item_of l.fn.entries

abbrev pub decreases-loop-entry : goal.decreases-loop-entry
decreases-loop-entry l = length l.rest
