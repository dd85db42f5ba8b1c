use Rattle.std.proofs.Common.{◌≡◌, ◌++◌, drop}
use Rattle.bean_load.specs.Placed.{parts_of}
use Rattle.bean_load.proofs.placed.parts_of.Given as goal

-- the parts among those that are left complete those that were found
abbrev pub invariant-loop-number : goal.invariant-loop-number
invariant-loop-number l =
    l.own.items ++ parts_of l.file l.number (drop l.number l.parts) ≡ parts_of l.file 0 l.parts
