use Rattle.std.proofs.Common.{◌++◌, ◌∷◌, [], ap, subst, sym, ◌∙◌}
use Rattle.std.proofs.lemmas.List.{append-nil}
use Rattle.std.proofs.lemmas.Result.{on_ok_weaker}
use Rattle.bean_transactions.specs.Held.{takes_in}
use Rattle.bean_holdings.specs.Takes.{AreWithin, HasTaken}
use Rattle.bean_transactions.specs.declared.line.Line.{Line}
use Rattle.bean_transactions.proofs.HeldFacts.{none_taken}
use Rattle.bean_transactions.proofs.lines.note_line.Goals as goal

pub add-requires-clause-within : goal.add-requires-clause-within
add-requires-clause-within c = (
  c.requires.within.0,
  c.requires.within.1,
  subst (λ (l : Line). AreWithin c.args.holdings.now (c.requires.within.0 ++ takes_in (l ∷ [])))
      c.in-Take.is c.requires.within.2,
)

pub returns-in-Take : goal.returns-in-Take
returns-in-Take c = λ ps has within.
    let h = c.args.holdings.now in
    on_ok_weaker c.add.result
    (subst (λ (l : Line). HasTaken h (ps ++ takes_in (l ∷ [])) c.add.new.self) (sym c.in-Take.is))
    (c.add.ensures ps has
    (subst (λ (l : Line). AreWithin h (ps ++ takes_in (l ∷ []))) c.in-Take.is within))

pub returns-in_default : goal.returns-in_default
returns-in_default c = λ ps has within.
    subst (λ qs. HasTaken c.args.holdings.now qs c.args.takes.now)
    (sym (ap (λ qs. ps ++ qs) (none_taken c.args.line.now c.in_default.not-Take) ∙ append-nil ps))
    has
