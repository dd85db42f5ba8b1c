use Rattle.std.proofs.Common.{◌≡◌, map, reverse}
use Rattle.bean_pad.specs.Tree.{number_by}
use Rattle.bean_pad.proofs.tree.Tree.go_down.Given as goal

abbrev pub invariant-loop-component : goal.invariant-loop-component
invariant-loop-component l =
    l.number ≡ number_by l.self (reverse (map (λ part. part.now) l.yielded))
