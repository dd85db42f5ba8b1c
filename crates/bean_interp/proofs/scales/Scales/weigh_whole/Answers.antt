use Rattle.std.proofs.Common.{Err, ◌∙◌, subst, sym}
use Rattle.bean_interp.specs.Completion.{AreFills, Completes}
use Rattle.bean_interp.proofs.WholeFacts.{none_filled, none_lack, too_wide}
use Rattle.bean_interp.proofs.scales.Scales.weigh_whole.Goals as goal

pub returns-in-Ok : goal.returns-in-Ok
returns-in-Ok c = (
  none_lack c.args.legs.now c.requires,
  c.in-Ok.ensures.in_range,
  subst (AreFills c.args.legs.now) (sym (c.new-in-Ok.ensures ∙ c.new.ensures.items))
      (none_filled c.args.legs.now c.requires),
)

pub returns-in-Err : goal.returns-in-Err
returns-in-Err c =
    subst (λ r. Completes c.args.legs.now (Err r)) (sym c.completion_refusal.ensures)
    (too_wide c.args.legs.now c.weigh.result _ c.requires c.in-Err.is c.weigh.ensures.wide)
