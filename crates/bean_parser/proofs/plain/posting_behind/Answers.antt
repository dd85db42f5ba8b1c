use Rattle.std.proofs.Common.{◌∷◌, subst}
use Rattle.std.proofs.lemmas.Option.{IfSome_then}
use Rattle.bean_lexer.specs.ToCome.{ToCome}
use Rattle.bean_parser.proofs.PlainBlockFacts.{amount_behind, negative_behind}
use Rattle.bean_parser.proofs.plain.posting_behind.Goals as goal

pub returns-in-Some-clause-posting : goal.returns-in-Some-clause-posting
returns-in-Some-clause-posting c =
    IfSome_then c.plain_posting.result c.plain_posting.ensures
    (λ p said. negative_behind c.args.account c.in-Some.minus c.in_ok-number.number
    c.in_ok-currency.currency c.args.lexer.now c.next_minus.new.lexer c.next_number.new.lexer
    c.next_currency.new.lexer p c.requires.kind c.in-Some.ensures.kind c.in_ok-number.ensures.kind
    c.in_ok-currency.ensures.kind c.in-Some.ensures.place c.in_ok-number.ensures.place
    c.in_ok-currency.ensures.place c.in-Some.ensures.tokens c.in_ok-number.ensures.tokens
    c.in_ok-currency.ensures.tokens said)

pub returns-else-not-ends_line-2-clause-posting :
    goal.returns-else-not-ends_line-2-clause-posting
returns-else-not-ends_line-2-clause-posting c =
    let before = c.in_default.ensures.tokens in
    let number = c.in-Some-next_number in
    let currency = c.in_ok-currency-in-Some-next_number in
    IfSome_then c.plain_posting-in-Some-next_number.result c.plain_posting-in-Some-next_number.ensures
    (λ p said. amount_behind c.args.account number.number currency.currency c.args.lexer.now
    c.next_number-2.new.lexer c.next_currency-in-Some-next_number.new.lexer p c.requires.kind
    number.ensures.kind currency.ensures.kind number.ensures.place currency.ensures.place
    (λ ts h. subst (λ l. ToCome l (number.number ∷ ts)) before (number.ensures.tokens ts h))
    currency.ensures.tokens said)
