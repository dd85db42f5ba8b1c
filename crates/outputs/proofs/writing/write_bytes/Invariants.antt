use Rattle.std.proofs.Common.{◌≡◌, ◌≤◌, ◌-◌, length, take}
use Rattle.outputs.specs.Output.{Took}
use Rattle.outputs.proofs.writing.write_bytes.Given as goal

abbrev pub invariant-loop-written : goal.invariant-loop-written
invariant-loop-written g l = record {
  within : l.written ≤ length l.bytes;
  took : Took g.W.Output l.initial.out l.out (take l.written l.bytes);
  counted : g.W.Output.refusals l.out ≡ g.W.Output.refusals l.initial.out;
}

abbrev pub decreases-loop-written : goal.decreases-loop-written
decreases-loop-written g l = length l.bytes - l.written
