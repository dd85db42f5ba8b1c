use Rattle.std.proofs.Common.{◌≡◌, ◌++◌, ◌∷◌, [], length, sym, subst, arith, ◌∙◌}
use Rattle.std.proofs.lemmas.Grind.{common_steps}
use Rattle.std.specs.List.{AllByRecursion}
use Rattle.bean_directives.specs.Given.{with_postings}
use Rattle.bean_parser.specs.Taken.{Takes}
use Rattle.bean_parser.specs.Waiting.{IsWithin}
use Rattle.bean_parser.proofs.WaitingFacts.{last_waits, last_within, within_more}
use Rattle.bean_parser.proofs.directives.Directives.add_transaction.Goals as goal

pub invariant_of-self-in_err-directive-in-Transaction :
    goal.invariant_of-self-in_err-directive-in-Transaction
invariant_of-self-in_err-directive-in-Transaction c =
    let was = c.self.inside in
    let read = c.in_ok-directive.ensures.block in
    within_more was.postings.items read.0 c.take_next.new.postings.items was.waiting.items read.1
    c.self.invariant

pub invariant_of-self-in_err-push-in-Transaction :
    goal.invariant_of-self-in_err-push-in-Transaction
invariant_of-self-in_err-push-in-Transaction c =
    let was = c.self.inside in
    let read = c.in_ok-directive.ensures.block in
    let all = c.take_next.new.postings.items in
    subst (AllByRecursion (IsWithin all)) (sym c.in_err-push-in-Transaction.ensures.items)
    (within_more was.postings.items read.0 all was.waiting.items read.1 c.self.invariant)

pub invariant_of-self-in-Transaction : goal.invariant_of-self-in-Transaction
invariant_of-self-in-Transaction c =
    let was = c.self.inside in
    let read = c.in_ok-directive.ensures.block in
    let all = c.take_next.new.postings.items in
    let from : c.len-first.result ≡ length was.postings.items =
    grind (arith, common_steps, c.len-first.ensures) in
    let to : c.len-end.result ≡ length all = grind (arith, common_steps, c.len-end.ensures) in
    last_within was.postings.items read.0 all was.waiting.items c.push.new.self.items
    c.in_ok-directive-in-Transaction.directive (record {
      first = c.len-first.result;
      end = c.len-end.result;
    }) read.1 from to c.in_ok-push-in-Transaction.ensures.items c.self.invariant

pub returns-in_ok-settle_if_full-in-Transaction-clause-added :
    goal.returns-in_ok-settle_if_full-in-Transaction-clause-added
returns-in_ok-settle_if_full-in-Transaction-clause-added c =
    let was = c.self.inside in
    let read = c.in_ok-directive.ensures.block in
    let all = c.take_next.new.postings.items in
    let from : c.len-first.result ≡ length was.postings.items =
    grind (arith, common_steps, c.len-first.ensures) in
    let to : c.len-end.result ≡ length all = grind (arith, common_steps, c.len-end.ensures) in
    let taken =
    subst (λ t. Takes t read.0 c.args.lexer.now c.take_next.new.block.items c.take_next.new.lexer)
    c.in-Transaction.is read.2 in (
      with_postings read.0 c.in-Transaction.directive,
      taken,
      c.in_ok-settle_if_full-in-Transaction.ensures
          ∙ last_waits was.settled.items was.postings.items read.0 all was.waiting.items
          c.push.new.self.items c.in_ok-directive-in-Transaction.directive
          (record {
            first = c.len-first.result;
            end = c.len-end.result;
          }) read.1 from to c.in_ok-push-in-Transaction.ensures.items c.self.invariant
          ∙ (λ i. c.self.view_is i
          ++ with_postings read.0 (c.in_ok-directive-in-Transaction.ensures i) ∷ []),
    )
