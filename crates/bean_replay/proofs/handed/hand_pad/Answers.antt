use Rattle.std.proofs.Common.{◌++◌, OnOk, ap, subst, sym, ◌∙◌}
use Rattle.std.proofs.lemmas.List.{append-nil}
use Rattle.bean_replay.specs.Booker.{drafts_in, pad_in}
use Rattle.bean_replay.proofs.TakeFacts.{no_pad}
use Rattle.bean_replay.proofs.handed.hand_pad.Goals as goal

pub returns-in-Pad : goal.returns-in-Pad
returns-in-Pad g c = λ ds has.
    subst (λ k. OnOk c.pad.result
    (g.S.Bookings.has_taken c.pad.new.self (ds ++ drafts_in (pad_in k)))) (sym c.in-Pad.is)
    (c.pad.ensures ds has)

pub returns-in_default : goal.returns-in_default
returns-in_default g c = λ ds has.
    subst (λ l. g.S.Bookings.has_taken c.args.to.now l)
    (sym (ap (λ o. ds ++ drafts_in o) (no_pad c.args.kind.now c.in_default.not-Pad)
    ∙ append-nil ds))
    has
