use Rattle.std.proofs.Common.{refl, Err}
use Rattle.theory.proofs.FormFacts.{reads_made}
use Rattle.bql_grammar.proofs.FormFacts.{reads_then}
use Rattle.bql_grammar.specs.Grammar.{at, filters, filters_behind, in_balances}
use Rattle.bql_grammar.specs.Read.{same, filters_of, balances_of}
use Rattle.bql_grammar.specs.Stopping.{IsClear}
use Rattle.bql_grammar.proofs.MovingFacts.{at_moves}
use Rattle.bql_grammar.proofs.LackingFacts.{lacks_made, lacks_filters_behind}
use Rattle.bql_grammar.proofs.ClauseFacts.{stuck_first, gives_then}
use Rattle.bql_grammar.proofs.queries.balances.Goals as goal

pub returns-in-Err : goal.returns-in-Err
returns-in-Err c =
    stuck_first IsClear at filters_behind same balances_of c.args.tokens.now c.in-Err.stuck
    (λ rest. refl) lacks_filters_behind c.in-Err.ensures

pub returns-in-Err-filters : goal.returns-in-Err-filters
returns-in-Err-filters c =
    gives_then IsClear IsClear at filters_behind balances_of c.args.tokens.now c.in-Ok.found.0
    c.in-Ok.found.1.now (Err c.in-Err-filters.stuck) (λ rest. refl) (λ v rest. refl)
    lacks_filters_behind at_moves c.in-Ok.ensures
    (stuck_first IsClear filters (in_balances c.in-Ok.found.0) filters_of balances_of
    c.in-Ok.found.1.now c.in-Err-filters.stuck (λ rest. refl) (λ fs. lacks_made _)
    c.in-Err-filters.ensures)

pub returns : goal.returns
returns c =
    reads_then at filters_behind c.args.tokens.now c.in-Ok.found.0 c.in-Ok.found.1.now _
    c.in-Ok-filters.found.1.now (λ rest. refl) (λ v rest. refl) c.in-Ok.ensures
    (reads_then filters (in_balances c.in-Ok.found.0) c.in-Ok.found.1.now
    (filters_of c.in-Ok-filters.found.0) c.in-Ok-filters.found.1.now _
    c.in-Ok-filters.found.1.now (λ rest. refl) (λ v rest. refl) c.in-Ok-filters.ensures
    (reads_made _ c.in-Ok-filters.found.1.now))
