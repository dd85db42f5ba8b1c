use Rattle.std.proofs.Common.{Err, ap, subst, sym}
use Rattle.bean_interp.specs.Completion.{Completes}
use Rattle.bean_interp.specs.Balance.{Judges}
use Rattle.bean_interp.specs.Residual.{AreInRange}
use Rattle.bean_transactions.specs.Outcome.{StopsAt}
use Rattle.bean_transactions.specs.Tried.{IsKept, LacksOrIsWide, booked_legs}
use Rattle.bean_transactions.specs.declared.setting.Head.{Head}
use Rattle.bean_transactions.proofs.PlainFacts.{kept_as_written, stopped_as_written, wide_as_written}
use Rattle.bean_transactions.proofs.plain.try_plain.Goals as goal

pub returns-in-Ok-clause-tried : goal.returns-in-Ok-clause-tried
returns-in-Ok-clause-tried c = λ s is.
    let ps = c.args.postings.now in
    let qs = c.args.posted.items in
    let range =
    subst (λ l. AreInRange (booked_legs ps l)) c.as_slice.ensures.value c.in-Ok.ensures.1 in (
      c.requires.inside,
      subst (IsKept s ps) (sym c.new.ensures) (kept_as_written s ps qs c.requires.written range),
    )

pub returns-clause-tried : goal.returns-clause-tried
returns-clause-tried c = λ s is.
    let ps = c.args.postings.now in
    let qs = c.args.posted.items in
    let judged =
    subst (λ l. Judges (booked_legs ps l) (Err c.in-Err.fault)) c.as_slice.ensures.value
    c.in-Err.ensures in
    let stops =
    c.refusal_of.ensures (booked_legs ps qs)
    (subst (λ e. Completes (booked_legs ps qs) (Err e)) (sym c.completion_refusal.ensures)
    (wide_as_written ps qs c.in-Err.fault judged)) in
    stopped_as_written s ps qs c.refusal_of.result c.requires.written c.requires.inside
    (subst (λ n. StopsAt (LacksOrIsWide n (booked_legs ps qs)) c.refusal_of.result)
    (sym (ap (λ (h : Head). h.line) is)) stops)
