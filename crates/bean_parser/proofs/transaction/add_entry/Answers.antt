use Rattle.std.proofs.Common.{◌≡◌, length, arith, ◌∙◌}
use Rattle.std.proofs.lemmas.Grind.{common_steps}
use Rattle.bean_parser.proofs.SaidFacts.{entry_below}
use Rattle.bean_parser.proofs.transaction.add_entry.Goals as goal

pub returns-clause-said : goal.returns-clause-said
returns-clause-said c = λ head t others b own says.
    let all = c.args.postings.now.items in
    let len : c.len.result ≡ length all = grind (arith, common_steps, c.len.ensures) in
    entry_below head t others b c.args.directive.now all c.push-3.new.self.items c.pop.new.self.items
    c.in-Some.last c.push-2.new.self c.args.entry c.args.before says own
    (λ e. c.if-len-before.false (len ∙ e)) c.in-Some.ensures.items c.in_ok-push.ensures
    c.in_ok-push-2.ensures.items
