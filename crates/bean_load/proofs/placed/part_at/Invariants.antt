use Rattle.std.proofs.Common.{◌≡◌, drop}
use Rattle.std.specs.Prelude.{fold}
use Rattle.bean_load.specs.Placed.{later}
use Rattle.bean_load.proofs.placed.part_at.Given as goal

-- the parts that are left decide it
abbrev pub invariant-loop-part : goal.invariant-loop-part
invariant-loop-part l =
    fold (later l.line) l.number (drop l.part-index l.own) ≡ fold (later l.line) 0 l.own
