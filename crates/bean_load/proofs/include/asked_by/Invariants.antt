use Rattle.std.proofs.Common.{◌≡◌, ◌++◌, drop, map}
use Rattle.bean_load.specs.Include.{include_of}
use Rattle.bean_load.proofs.include.asked_by.Given as goal

-- the include lines that are left complete those that were found
abbrev pub invariant-loop-line : goal.invariant-loop-line
invariant-loop-line l =
    l.found.items ++ map (include_of l.including) (drop l.line-index l.lines)
    ≡ map (include_of l.including) l.lines
