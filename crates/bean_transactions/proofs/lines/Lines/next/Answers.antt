use Rattle.std.proofs.Common.{◌∙◌, ap, sym}
use Rattle.bean_holdings.specs.Holdings.{holding}
use Rattle.bean_holdings.specs.Inventories.{inventory_in}
use Rattle.bean_reductions.specs.After.{after}
use Rattle.bean_transactions.specs.Held.{takes_in}
use Rattle.bean_accounts.specs.Methods.{method_in}
use Rattle.bean_transactions.proofs.LinedFacts.{next_of}
use Rattle.bean_holdings.proofs.TakesFacts.{small_held, small_taken}
use Rattle.bean_transactions.proofs.WithinFacts.{within_of}
use Rattle.bean_transactions.proofs.lines.Lines.next.Goals as goal

pub outcome_of-requires-2-clause-small : goal.outcome_of-requires-2-clause-small
outcome_of-requires-2-clause-small c =
    let h = c.args.holdings.now in
    let a = c.args.posting.now.account in
    let ps = takes_in c.args.self.now.lines.items in
    record {
      held =
          small_held h a ps c.of-2.result.now c.of-3.result.now
          (c.of-2.ensures ∙ ap (holding h) c.account-account.ensures) c.requires.bounded c.requires.few;
      taken =
          small_taken h a ps c.of-2.result.now c.of-3.result.now
          (c.of-3.ensures ∙ ap (inventory_in c.args.self.now.takes.taken) c.account-account.ensures
          ∙ (c.requires.taken (sym c.is_in_braces.ensures ∙ c.if-not-is_in_braces.false)).takes a) c.requires.within c.requires.bounded c.requires.few;
    }

pub returns-clause-comes : goal.returns-clause-comes
returns-clause-comes c = λ s is.
    next_of s c.args.holdings.now c.args.methods.now c.args.head c.args.self.now.lines.items _ _ _
    c.args.index c.args.posting.now c.outcome_of-2.result is
    (c.of.ensures ∙ ap (method_in c.args.methods.now) c.account-account.ensures)
    (c.of-2.ensures ∙ ap (holding c.args.holdings.now) c.account-account.ensures)
    (c.of-3.ensures ∙ ap (inventory_in c.args.self.now.takes.taken) c.account-account.ensures
    ∙ (c.requires.taken (sym c.is_in_braces.ensures ∙ c.if-not-is_in_braces.false)).takes
    c.args.posting.now.account)
    c.outcome_of-2.ensures

pub returns-clause-within : goal.returns-clause-within
returns-clause-within c =
    let h = c.args.holdings.now in
    let a = c.args.posting.now.account in
    within_of h _ _ c.args.head c.args.posting.now c.args.index
    (takes_in c.args.self.now.lines.items) c.outcome_of-2.result c.requires.within
    (c.requires.bounded.inventories a)
    (λ lot.
    ap (λ es. after es c.of-3.result.now) (c.of-2.ensures ∙ ap (holding h) c.account-account.ensures)
    ∙ ap (after _) (c.of-3.ensures ∙ ap (inventory_in c.args.self.now.takes.taken) c.account-account.ensures
    ∙ (c.requires.taken (sym c.is_in_braces.ensures ∙ c.if-not-is_in_braces.false)).takes a))
    c.outcome_of-2.ensures
