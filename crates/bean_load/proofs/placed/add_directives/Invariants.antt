use Rattle.std.proofs.Common.{◌≡◌, ◌++◌, map}
use Rattle.bean_load.specs.Placed.{placed_directive}
use Rattle.bean_load.specs.Turns.{AreCodesIf}
use Rattle.bean_load.proofs.placed.add_directives.Given as goal

abbrev pub invariant-loop-directive : goal.invariant-loop-directive
invariant-loop-directive l = record {
  placed : l.out.items ≡ l.fn.out.items ++ map (placed_directive l.file l.own) l.yielded;
  coded : AreCodesIf l.fn.out.items l.fn.codes → AreCodesIf l.out.items l.codes;
}
