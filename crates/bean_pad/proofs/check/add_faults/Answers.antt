use Rattle.std.proofs.Common.{sym}
use Rattle.std.proofs.lemmas.List.{append-nil}
use Rattle.bean_pad.specs.Standing.{faults_of_pad}
use Rattle.bean_pad.proofs.FlatFacts.{one_more, all_there}
use Rattle.bean_pad.proofs.check.add_faults.Goals as goal

pub loop-pad-init : goal.loop-pad-init
loop-pad-init c = sym (append-nil c.args.faults.now.items)

pub loop-pad-preserved : goal.loop-pad-preserved
loop-pad-preserved c =
    one_more faults_of_pad c.args.faults.now.items c.loop-pad.faults.items _ c.args.pads.now
    c.loop-pad.pad-index c.pad-item.result c.loop-pad-test.true c.pad-item.is
    c.loop-pad.invariant c.in_ok-add_faults_of.ensures

pub returns : goal.returns
returns c =
    all_there faults_of_pad c.args.faults.now.items c.loop-pad.faults.items c.args.pads.now
    c.loop-pad.pad-index c.loop-pad-test.false c.loop-pad.invariant
