use Rattle.std.proofs.Common.{refl, Some, None}
use Rattle.theory.specs.Form.{made}
use Rattle.bql_lexer.specs.declared.kind.Kind.TheVariants as kind
use Rattle.bql_grammar.specs.Front.{of_kind}
use Rattle.bql_grammar.specs.Grammar.{name_at}
use Rattle.bql_grammar.specs.Read.{same}
use Rattle.bql_grammar.proofs.LackingFacts.{begins_name}
use Rattle.bql_grammar.proofs.ClauseFacts.{nothing_behind}
use Rattle.bql_grammar.proofs.queries.at.Goals as goal

pub returns-in_default-after : goal.returns-in_default-after
returns-in_default-after c =
    nothing_behind kind.At refl (of_kind kind.Name) (λ word name. made (Some (name_at name)))
    (made None) same c.args.tokens.now _ c.in-Some.behind.now _ c.before-in_default-after.ensures
    c.in-Some.ensures.front c.in_default-after.ensures.front
    (λ t. begins_name (λ name. Some (name_at name)))
