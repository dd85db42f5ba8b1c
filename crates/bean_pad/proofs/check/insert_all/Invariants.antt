use Rattle.std.proofs.Common.{◌+◌, ◌*◌, ◌≤◌, List, take}
use Rattle.bean_pad.specs.Held.{Units}
use Rattle.bean_pad.specs.Standing.{all_inserted}
use Rattle.bean_pad.specs.Sums.{AreSmall, Holds}
use Rattle.bean_pad.proofs.check.insert_all.Given as goal

abbrev pub invariant-loop-note : goal.invariant-loop-note
invariant-loop-note l = record {
  small : AreSmall l.sums;
  additions : l.sums.additions ≤ l.initial.sums.additions + 2 * l.note-index;
  holds : (us : List Units) → Holds us l.initial.sums
      → Holds (all_inserted l.pad (take l.note-index l.notes) us) l.sums;
}
