use Rattle.std.proofs.Common.{refl, Err}
use Rattle.theory.proofs.FormFacts.{reads_made}
use Rattle.bql_lexer.specs.declared.kind.Kind.TheVariants as kind
use Rattle.bql_tree.specs.declared.function.Scope.TheVariants.{Transactions, Postings}
use Rattle.bql_grammar.proofs.FormFacts.{reads_then}
use Rattle.bql_grammar.specs.Grammar.{filter, behind_from, in_filters}
use Rattle.bql_grammar.specs.Read.{filter_of, filters_of}
use Rattle.bql_grammar.specs.Stopping.{IsClear}
use Rattle.bql_grammar.proofs.MovingFacts.{filter_moves}
use Rattle.bql_grammar.proofs.LackingFacts.{lacks_made, lacks_behind_from}
use Rattle.bql_grammar.proofs.ClauseFacts.{stuck_first, gives_then, clear_before}
use Rattle.bql_grammar.proofs.reading.filters.Goals as goal

pub returns-in-Err : goal.returns-in-Err
returns-in-Err c =
    stuck_first IsClear (filter kind.From Transactions) behind_from filter_of filters_of
    c.args.tokens.now c.in-Err.stuck (λ rest. refl) lacks_behind_from
    (clear_before kind.From refl (filter kind.From Transactions) filter_of c.args.tokens.now _
    c.in-Err.ensures)

pub returns-in-Err-filter : goal.returns-in-Err-filter
returns-in-Err-filter c =
    gives_then IsClear IsClear (filter kind.From Transactions) behind_from filters_of
    c.args.tokens.now (filter_of c.in-Ok.found.0) c.in-Ok.found.1.now (Err c.in-Err-filter.stuck)
    (λ rest. refl) (λ v rest. refl) lacks_behind_from (filter_moves kind.From Transactions refl) c.in-Ok.ensures
    (stuck_first IsClear (filter kind.Where Postings) (in_filters (filter_of c.in-Ok.found.0)) filter_of
    filters_of c.in-Ok.found.1.now c.in-Err-filter.stuck (λ rest. refl) (λ p. lacks_made _)
    (clear_before kind.Where refl (filter kind.Where Postings) filter_of c.in-Ok.found.1.now _
    c.in-Err-filter.ensures))

pub returns : goal.returns
returns c =
    reads_then (filter kind.From Transactions) behind_from c.args.tokens.now
    (filter_of c.in-Ok.found.0) c.in-Ok.found.1.now _ c.in-Ok-filter.found.1.now
    (λ rest. refl) (λ v rest. refl) c.in-Ok.ensures
    (reads_then (filter kind.Where Postings) (in_filters (filter_of c.in-Ok.found.0))
    c.in-Ok.found.1.now (filter_of c.in-Ok-filter.found.0) c.in-Ok-filter.found.1.now _
    c.in-Ok-filter.found.1.now (λ rest. refl) (λ v rest. refl) c.in-Ok-filter.ensures
    (reads_made _ c.in-Ok-filter.found.1.now))
