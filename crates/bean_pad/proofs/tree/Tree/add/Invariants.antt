use Rattle.std.proofs.Common.{◌≡◌, map, reverse, Some}
use Rattle.bean_pad.specs.Tree.{Grows, number_by}
use Rattle.bean_pad.proofs.tree.Tree.add.Given as goal

abbrev pub invariant-loop-component : goal.invariant-loop-component
invariant-loop-component l = record {
  grows : Grows l.initial.self l.self;
  number : number_by l.self (reverse (map (λ part. part.now) l.yielded)) ≡ Some l.number;
}
