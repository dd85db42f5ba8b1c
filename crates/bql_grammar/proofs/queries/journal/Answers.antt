use Rattle.std.proofs.Common.{refl, Err}
use Rattle.theory.proofs.FormFacts.{reads_made}
use Rattle.bql_lexer.specs.declared.kind.Kind.TheVariants as kind
use Rattle.bql_tree.specs.declared.function.Scope.TheVariants.{Transactions}
use Rattle.bql_grammar.proofs.FormFacts.{reads_then}
use Rattle.bql_grammar.specs.Grammar.{pattern, at, filter, behind_pattern, behind_at, in_journal}
use Rattle.bql_grammar.specs.Read.{same, filter_of, journal_of}
use Rattle.bql_grammar.specs.Stopping.{IsFresh, IsClear}
use Rattle.bql_grammar.proofs.MovingFacts.{pattern_moves, at_moves}
use Rattle.bql_grammar.proofs.LackingFacts.{lacks_made, lacks_behind_pattern, lacks_behind_at}
use Rattle.bql_grammar.proofs.ClauseFacts.{stuck_first, gives_then, clear_before}
use Rattle.bql_grammar.proofs.queries.journal.Goals as goal

pub returns-in-Err : goal.returns-in-Err
returns-in-Err c =
    gives_then IsFresh IsClear pattern behind_pattern journal_of c.args.tokens.now c.pattern-pattern.result.0
    c.pattern-pattern.result.1.now (Err c.in-Err.stuck) (λ rest. refl) (λ v rest. refl)
    lacks_behind_pattern pattern_moves c.pattern-pattern.ensures
    (stuck_first IsClear at (behind_at c.pattern-pattern.result.0) same journal_of
    c.pattern-pattern.result.1.now c.in-Err.stuck (λ rest. refl)
    (lacks_behind_at c.pattern-pattern.result.0) c.in-Err.ensures)

pub returns-in-Err-filter : goal.returns-in-Err-filter
returns-in-Err-filter c =
    gives_then IsFresh IsClear pattern behind_pattern journal_of c.args.tokens.now c.pattern-pattern.result.0
    c.pattern-pattern.result.1.now (Err c.in-Err-filter.stuck) (λ rest. refl)
    (λ v rest. refl) lacks_behind_pattern pattern_moves c.pattern-pattern.ensures
    (gives_then IsClear IsClear at (behind_at c.pattern-pattern.result.0) journal_of
    c.pattern-pattern.result.1.now c.in-Ok.found.0 c.in-Ok.found.1.now
    (Err c.in-Err-filter.stuck) (λ rest. refl) (λ v rest. refl)
    (lacks_behind_at c.pattern-pattern.result.0) at_moves c.in-Ok.ensures
    (stuck_first IsClear (filter kind.From Transactions)
    (in_journal c.pattern-pattern.result.0 c.in-Ok.found.0) filter_of journal_of
    c.in-Ok.found.1.now c.in-Err-filter.stuck (λ rest. refl) (λ from. lacks_made _)
    (clear_before kind.From refl (filter kind.From Transactions) filter_of c.in-Ok.found.1.now _
    c.in-Err-filter.ensures)))

pub returns : goal.returns
returns c =
    reads_then pattern behind_pattern c.args.tokens.now c.pattern-pattern.result.0
    c.pattern-pattern.result.1.now _ c.in-Ok-filter.found.1.now (λ rest. refl)
    (λ v rest. refl) c.pattern-pattern.ensures
    (reads_then at (behind_at c.pattern-pattern.result.0) c.pattern-pattern.result.1.now
    c.in-Ok.found.0 c.in-Ok.found.1.now _ c.in-Ok-filter.found.1.now (λ rest. refl)
    (λ v rest. refl) c.in-Ok.ensures
    (reads_then (filter kind.From Transactions)
    (in_journal c.pattern-pattern.result.0 c.in-Ok.found.0) c.in-Ok.found.1.now
    (filter_of c.in-Ok-filter.found.0) c.in-Ok-filter.found.1.now _
    c.in-Ok-filter.found.1.now (λ rest. refl) (λ v rest. refl) c.in-Ok-filter.ensures
    (reads_made _ c.in-Ok-filter.found.1.now)))
