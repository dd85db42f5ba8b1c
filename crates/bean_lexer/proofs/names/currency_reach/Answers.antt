use Rattle.std.proofs.Common.{take, ap}
use Rattle.bean_lexer.proofs.CurrencyFacts.{front_reach}
use Rattle.bean_lexer.proofs.names.currency_reach.Goals as goal

pub returns-clause-reach : goal.returns-clause-reach
returns-clause-reach c =
    front_reach c.args.bytes.now (take c.min.result c.args.bytes.now) c.end_of_run.result
    (ap (λ k. take k c.args.bytes.now) c.min.ensures) c.end_of_run.ensures.run
