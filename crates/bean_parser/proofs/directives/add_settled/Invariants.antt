use Rattle.std.proofs.Common.{◌≡◌, ◌++◌, map}
use Rattle.bean_parser.specs.Waiting.{completed}
use Rattle.bean_parser.proofs.directives.add_settled.Given as goal

abbrev pub invariant-loop-one : goal.invariant-loop-one
invariant-loop-one l = record {
  whole : l.yielded ++ l.one-iterator.rest.items ≡ l.fn.waiting.items;
  done : l.directives.items
      ≡ l.fn.directives.items ++ map (completed l.block.value.items) l.yielded;
}
