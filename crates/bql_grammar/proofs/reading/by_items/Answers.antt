use Rattle.std.proofs.Common.{refl, Some, Err}
use Rattle.theory.proofs.FormFacts.{reads_made}
use Rattle.bql_lexer.specs.declared.kind.Kind.TheVariants as kind
use Rattle.bql_tree.specs.Part.{parts_of}
use Rattle.bql_grammar.specs.Front.{of_kind}
use Rattle.bql_grammar.proofs.FormFacts.{reads_behind, reads_then, none_here}
use Rattle.bql_grammar.specs.Grammar.{items, items_in, items_behind, some}
use Rattle.bql_grammar.specs.Read.{group_of}
use Rattle.bql_grammar.specs.Stopping.{IsFresh}
use Rattle.bql_grammar.proofs.MovingFacts.{by_moves}
use Rattle.bql_grammar.proofs.LackingFacts.{lacks_made, begins_items}
use Rattle.bql_grammar.proofs.ClauseFacts.{gives_behind, stuck_first, none_at_first}
use Rattle.bql_grammar.proofs.reading.by_items.Goals as goal

pub returns-in_default : goal.returns-in_default
returns-in_default c =
    none_at_first items_in group_of c.args.tokens.now _ c.before-in_default.ensures
    (none_here (of_kind kind.By) items_behind c.args.tokens.now c.in_default.ensures.front)
    begins_items

pub returns-in-Err : goal.returns-in-Err
returns-in-Err c =
    gives_behind IsFresh IsFresh (of_kind kind.By) items_behind group_of c.args.tokens.now _ _
    (Err c.in-Err.stuck) (λ t rest. refl) by_moves c.in-Some.ensures.front
    (stuck_first IsFresh items some parts_of group_of c.in-Some.behind.now c.in-Err.stuck
    (λ rest. refl) (λ ps. lacks_made (Some ps)) c.in-Err.ensures)

pub returns : goal.returns
returns c =
    reads_behind (of_kind kind.By) items_behind c.args.tokens.now _ _ _ c.in-Ok.found.1.now
    (λ t rest. refl) c.in-Some.ensures.front
    (reads_then items some c.in-Some.behind.now (parts_of c.in-Ok.found.0)
    c.in-Ok.found.1.now _ c.in-Ok.found.1.now (λ rest. refl) (λ v rest. refl)
    c.in-Ok.ensures (reads_made (Some (parts_of c.in-Ok.found.0)) c.in-Ok.found.1.now))
