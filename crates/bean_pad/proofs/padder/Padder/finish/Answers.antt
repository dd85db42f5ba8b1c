use Rattle.std.proofs.Common.{◌∙◌}
use Rattle.bean_pad.proofs.padder.Padder.finish.Goals as goal

pub returns : goal.returns
returns c = λ past h. record {
  pads = c.new.ensures ∙ (λ i. (c.into_pads.ensures i).items) ∙ h.pads;
  faults = c.new-2.ensures ∙ c.in_ok-faults.ensures past h;
}
