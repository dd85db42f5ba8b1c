use Rattle.std.proofs.Common.{refl, Some, None}
use Rattle.theory.specs.Form.{made}
use Rattle.bql_lexer.specs.declared.kind.Kind.TheVariants as kind
use Rattle.bql_grammar.specs.Piece.{whole}
use Rattle.bql_grammar.specs.Read.{same}
use Rattle.bql_grammar.proofs.LackingFacts.{begins_whole_number}
use Rattle.bql_grammar.proofs.ClauseFacts.{nothing_behind}
use Rattle.bql_grammar.proofs.reading.limit.Goals as goal

pub returns-in_default-after_whole : goal.returns-in_default-after_whole
returns-in_default-after_whole c =
    nothing_behind kind.Limit refl whole (λ word n. made (Some n)) (made None) same
    c.args.tokens.now _ c.in-Some.behind.now _ c.before-in_default-after_whole.ensures
    c.in-Some.ensures.front c.in_default-after_whole.ensures (λ t. begins_whole_number)
