use Rattle.std.proofs.Common.{sym}
use Rattle.std.proofs.lemmas.List.{append-nil}
use Rattle.bean_pad.specs.Standing.{faults_of_note}
use Rattle.bean_pad.proofs.FlatFacts.{one_more, all_there}
use Rattle.bean_pad.proofs.check.add_faults_of_notes.Goals as goal

pub loop-note-init : goal.loop-note-init
loop-note-init c = sym (append-nil c.args.faults.now.items)

pub loop-note-preserved : goal.loop-note-preserved
loop-note-preserved c =
    one_more (faults_of_note c.args.place) c.args.faults.now.items c.loop-note.faults.items _
    c.args.notes.now c.loop-note.note-index c.note-item.result c.loop-note-test.true
    c.note-item.is c.loop-note.invariant c.in_ok-add_fault.ensures

pub returns : goal.returns
returns c =
    all_there (faults_of_note c.args.place) c.args.faults.now.items c.loop-note.faults.items
    c.args.notes.now c.loop-note.note-index c.loop-note-test.false c.loop-note.invariant
