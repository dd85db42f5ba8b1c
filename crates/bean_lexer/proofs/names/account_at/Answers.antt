use Rattle.std.proofs.Common.{inl}
use Rattle.bean_lexer.proofs.CapitalFacts.{account_token}
use Rattle.bean_lexer.proofs.names.account_at.Goals as goal

pub returns-clause-token : goal.returns-clause-token
returns-clause-token c =
    let found = c.in_ok-len.ensures in
    inl (account_token c.args.bytes.now c.in_ok-len.len found.colon.0 c.requires.capital
    found.account found.long found.colon.2 found.colon.1)
