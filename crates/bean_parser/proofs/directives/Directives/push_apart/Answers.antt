use Rattle.std.proofs.Common.{◌++◌, ◌∷◌, [], sym, subst, ◌∙◌}
use Rattle.std.proofs.lemmas.Result.{on_ok_weaker}
use Rattle.std.specs.List.{AllByRecursion}
use Rattle.bean_directives.specs.Given.{with_postings}
use Rattle.bean_parser.specs.Waiting.{IsWithin}
use Rattle.bean_parser.proofs.WaitingFacts.{last_waits, last_within, within_more}
use Rattle.bean_parser.proofs.directives.Directives.push_apart.Goals as goal

pub invariant_of-self-in_err-directive : goal.invariant_of-self-in_err-directive
invariant_of-self-in_err-directive c =
    let was = c.self.inside in
    within_more was.postings.items c.args.own.items c.add_postings.new.postings.items
    was.waiting.items c.in_ok-part.ensures.added.0 c.self.invariant

pub invariant_of-self-in_err-push : goal.invariant_of-self-in_err-push
invariant_of-self-in_err-push c =
    let was = c.self.inside in
    let all = c.add_postings.new.postings.items in
    subst (AllByRecursion (IsWithin all)) (sym c.in_err-push.ensures.items)
    (within_more was.postings.items c.args.own.items all was.waiting.items
    c.in_ok-part.ensures.added.0 c.self.invariant)

pub invariant_of-self-2 : goal.invariant_of-self-2
invariant_of-self-2 c =
    let was = c.self.inside in
    let added = c.in_ok-part.ensures.added in
    last_within was.postings.items c.args.own.items c.add_postings.new.postings.items
    was.waiting.items c.push.new.self.items c.in_ok-directive.directive c.in_ok-part.part added.0
    added.1 added.2 c.in_ok-push.ensures.items c.self.invariant

pub returns : goal.returns
returns c =
    let was = c.self.inside in
    let added = c.in_ok-part.ensures.added in
    on_ok_weaker c.settle_if_full.result
    (λ same.
    same
    ∙ last_waits was.settled.items was.postings.items c.args.own.items
    c.add_postings.new.postings.items was.waiting.items c.push.new.self.items
    c.in_ok-directive.directive c.in_ok-part.part added.0 added.1 added.2
    c.in_ok-push.ensures.items c.self.invariant
    ∙ (λ i. c.self.view_is i ++ with_postings c.args.own.items (c.in_ok-directive.ensures i) ∷ []))
    c.settle_if_full.ensures
