use Rattle.std.proofs.Common.{◌≡◌, ◌++◌, take}
use Rattle.std.specs.List.{flat_map}
use Rattle.bean_pad.specs.Standing.{faults_of_note}
use Rattle.bean_pad.proofs.check.add_faults_of_notes.Given as goal

abbrev pub invariant-loop-note : goal.invariant-loop-note
invariant-loop-note l =
    l.faults.items ≡ l.initial.faults.items
    ++ flat_map (faults_of_note l.place) (take l.note-index l.notes)
