use Rattle.std.proofs.Common.{refl, subst}
use Rattle.bean_parser.specs.Taken.{AddsTransaction}
use Rattle.bean_parser.proofs.GatheredFacts.{transaction_adds}
use Rattle.bean_parser.proofs.parse.Gathered.add_next.Goals as goal

pub returns-in-Added-clause-added : goal.returns-in-Added-clause-added
returns-in-Added-clause-added c =
    let before = c.args.lexer.now in
    let after = c.add_transaction.new.lexer in
    let adds =
    subst (λ n. AddsTransaction n before c.add_transaction.new.block.items after c.args.self.now.directives
    c.add_transaction.new.self) c.in-Added.is c.in_ok-add_transaction.ensures.added in
    transaction_adds before after adds.0 c.args.self.now _ adds.1 adds.2 refl refl refl
