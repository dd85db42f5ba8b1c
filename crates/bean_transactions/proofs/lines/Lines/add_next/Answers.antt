use Rattle.std.proofs.Common.{◌≡◌, ap, arith, length, length-append, subst, sym, take, ◌∙◌}
use Rattle.bean_transactions.specs.Held.{takes_in}
use Rattle.bean_holdings.specs.Takes.{AreWithin, HasTaken}
use Rattle.bean_transactions.specs.Outcome.{lines_of}
use Rattle.bean_transactions.proofs.HeldFacts.{noted_stay, takes_append}
use Rattle.bean_transactions.proofs.lines.Lines.add_next.Goals as goal

pub returns-in_ok-add-in-Ok-clause-keeping : goal.returns-in_ok-add-in-Ok-clause-keeping
returns-in_ok-add-in-Ok-clause-keeping c =
    let h = c.args.holdings.now in
    let before = c.note_takes.new.self in
    let now = c.add.new.self in
    let added = c.in_ok-add-in-Ok.ensures in
    let keeping = c.in_ok-note_takes.ensures.keeping in
    let new = lines_of c.in-Ok.outcome in
    let same : takes_in (take now.noted now.lines.items)
    ≡ takes_in (take before.noted before.lines.items) =
    (λ i. takes_in (take (added.noted i) (added.lines i)))
    ∙ noted_stay before.noted before.lines.items new keeping.few in
    let longer = ap length added.lines ∙ length-append before.lines.items new in
    record {
      few = omega (arith, added.noted, longer, keeping.few);
      noted =
          subst (HasTaken h (takes_in (take now.noted now.lines.items))) (sym added.takes)
          (subst (λ ps. HasTaken h ps before.takes) (sym same) keeping.noted);
      within =
          subst (AreWithin h)
          (sym (ap takes_in added.lines ∙ takes_append before.lines.items new))
          c.in-Ok.ensures.within;
    }
