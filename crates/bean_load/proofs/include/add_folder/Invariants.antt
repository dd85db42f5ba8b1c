use Rattle.std.proofs.Common.{◌≡◌, ◌++◌, length}
use Rattle.std.specs.String.{string_bytes}
use Rattle.bean_load.specs.Include.{folder}
use Rattle.bean_load.proofs.include.add_folder.Given as goal

abbrev pub invariant-loop-before : goal.invariant-loop-before
invariant-loop-before l =
    string_bytes l.out ++ folder l.unadded.name.now ≡ string_bytes l.initial.out ++ folder l.fn.name

abbrev pub decreases-loop-before : goal.decreases-loop-before
decreases-loop-before l = length l.unadded.name.now
