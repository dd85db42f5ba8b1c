use Rattle.std.proofs.Common.{refl}
use Rattle.bql_lexer.specs.declared.kind.Kind.TheVariants as kind
use Rattle.bql_grammar.proofs.FormFacts.{reads_then}
use Rattle.bql_grammar.specs.Grammar.{items_by, ordered}
use Rattle.bql_grammar.specs.Read.{group_of, order_of}
use Rattle.bql_grammar.specs.Stopping.{IsClear}
use Rattle.bql_grammar.proofs.LackingFacts.{lacks_ordered}
use Rattle.bql_grammar.proofs.ClauseFacts.{stuck_first, ordered_ends, clear_before}
use Rattle.bql_grammar.proofs.reading.order.Goals as goal

pub returns-in-Err : goal.returns-in-Err
returns-in-Err c =
    stuck_first IsClear (items_by kind.Order) ordered group_of order_of c.args.tokens.now
    c.in-Err.stuck (λ rest. refl) lacks_ordered
    (clear_before kind.Order refl (items_by kind.Order) group_of c.args.tokens.now _
    c.in-Err.ensures)

pub returns : goal.returns
returns c =
    reads_then (items_by kind.Order) ordered c.args.tokens.now (group_of c.in-Ok.found.0)
    c.in-Ok.found.1.now _ c.ordered.result.1.now (λ rest. refl) ordered_ends c.in-Ok.ensures
    c.ordered.ensures
