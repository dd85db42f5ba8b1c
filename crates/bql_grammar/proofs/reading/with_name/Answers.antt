use Rattle.std.proofs.Common.{refl}
use Rattle.theory.specs.Form.{made}
use Rattle.bql_lexer.specs.declared.kind.Kind.TheVariants as kind
use Rattle.bql_grammar.specs.Front.{of_kind}
use Rattle.bql_tree.specs.Part.{part_of}
use Rattle.bql_grammar.specs.Grammar.{named}
use Rattle.bql_grammar.specs.Piece.{piece}
use Rattle.bql_grammar.specs.Read.{target_of}
use Rattle.bql_grammar.proofs.LackingFacts.{begins_name}
use Rattle.bql_grammar.proofs.ClauseFacts.{nothing_behind}
use Rattle.bql_grammar.proofs.reading.with_name.Goals as goal

pub returns-in_default-after : goal.returns-in_default-after
returns-in_default-after c =
    let p = part_of c.args.part in
    nothing_behind kind.As refl (of_kind kind.Name) (λ word name. made (named p name))
    (made record { name = piece c.args.text.now p.start p.end; part = p }) target_of
    c.args.tokens.now _ c.in-Some.behind.now _ c.before-in_default-after.ensures
    c.in-Some.ensures.front c.in_default-after.ensures.front (λ t. begins_name (named p))
