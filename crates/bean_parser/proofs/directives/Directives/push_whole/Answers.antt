use Rattle.std.proofs.Common.{◌++◌, ◌∷◌, [], ◌∙◌}
use Rattle.std.proofs.lemmas.Result.{on_ok_weaker}
use Rattle.bean_parser.proofs.WaitingFacts.{own_waits}
use Rattle.bean_parser.proofs.directives.Directives.push_whole.Goals as goal

pub returns : goal.returns
returns c =
    let was = c.self.inside in
    on_ok_weaker c.settle_if_full.result
    (λ same.
    same
    ∙ own_waits was.settled.items was.postings.items was.waiting.items c.push.new.self.items
    c.in_ok-directive.directive c.in_ok-push.ensures.items
    ∙ (λ i. c.self.view_is i ++ c.in_ok-directive.ensures i ∷ [])) c.settle_if_full.ensures
