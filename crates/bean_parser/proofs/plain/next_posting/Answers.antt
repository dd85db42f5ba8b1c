use Rattle.bean_parser.proofs.UnderFacts.{posting_next}
use Rattle.bean_parser.proofs.plain.next_posting.Goals as goal

pub returns-clause-posting : goal.returns-clause-posting
returns-clause-posting c =
    posting_next c.args.lexer.now c.next_account.new.lexer c.posting_behind.new.lexer
    c.in_ok-account.account c.posting_behind.result c.in_ok-account.ensures.tokens
    c.in_ok-account.ensures.place c.in_ok-account.ensures.shorter c.posting_behind.ensures.posting
    c.posting_behind.ensures.shorter
