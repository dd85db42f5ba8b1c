use Rattle.std.proofs.Common.{◌++◌, ap, reverse, sym, ◌∙◌}
use Rattle.std.proofs.lemmas.List.{reverse-reverse}
use Rattle.std.specs.List.{flat_map}
use Rattle.bean_pad.specs.Note.{noted_pads}
use Rattle.bean_pad.specs.Standing.{faults_of_pad}
use Rattle.bean_pad.specs.Trail.{failing_on, trail_of}
use Rattle.bean_pad.proofs.TrailFacts.{failing_is}
use Rattle.bean_pad.proofs.padder.Padder.faults.Goals as goal

pub returns : goal.returns
returns c = λ past h.
    let ps = noted_pads past in
    let first = c.deref.ensures.value ∙ h.pads in
    let second = c.deref-2.ensures.value ∙ h.pads in
    let trail = c.deref-3.ensures.value ∙ h.trail in
    c.in_ok-add_failing.ensures
    ∙ (λ i. c.in_ok-add_faults.ensures i ++ failing_on (second i) (reverse (trail i)))
    ∙ (λ i. (c.new-faults.ensures.items i ++ flat_map faults_of_pad (first i))
    ++ failing_on ps (reverse-reverse (trail_of past) i))
    ∙ ap (λ l. flat_map faults_of_pad ps ++ l) (sym (failing_is ps past))
