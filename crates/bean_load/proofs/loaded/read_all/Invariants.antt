use Rattle.std.proofs.Common.{drop}
use Rattle.bean_load.specs.Turns.{AreCodesIf}
use Rattle.bean_load.proofs.ReadFacts.{IsCompleted}
use Rattle.bean_load.proofs.loaded.read_all.Given as goal

-- what the texts that are left say completes what is read
abbrev pub invariant-loop-number : goal.invariant-loop-number
invariant-loop-number l = record {
  completed : IsCompleted l.texts l.number l.read (drop l.number l.files);
  coded : AreCodesIf l.read.directives.items l.read.codes;
}
