use Rattle.std.proofs.Common.{sym, ◌∙◌}
use Rattle.bean_pad.proofs.SlotFacts.{placed}
use Rattle.bean_pad.proofs.counts.Counts.is_at.Goals as goal

pub returns-in-Some : goal.returns-in-Some
returns-in-Some c = λ same.
    placed c.args.self.now.by_number.entries c.args.at.now c.in-Some.found.now c.args.place
    c.in-Some.field-0-1.now c.len-counts.ensures.unique (sym c.in-Some.ensures.entry)
    (sym c.eq.ensures ∙ same)
