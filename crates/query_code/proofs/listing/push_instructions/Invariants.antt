use Rattle.std.proofs.Common.{◌≡◌, ◌≤◌, ◌-◌, ◌++◌, length}
use Rattle.query_code.specs.Listing.{lines_from}
use Rattle.query_code.proofs.listing.push_instructions.Given as goal

-- what is shown, and what is left to show, are together the whole
abbrev pub invariant-loop-rest : goal.invariant-loop-rest
invariant-loop-rest l =
    (l.out.items ++ lines_from (length l.instructions - length l.rest) l.rest
    ≡ l.fn.out.items ++ lines_from 0 l.instructions)
    × (length l.rest ≤ length l.instructions)

abbrev pub decreases-loop-rest : goal.decreases-loop-rest
decreases-loop-rest l = length l.rest
