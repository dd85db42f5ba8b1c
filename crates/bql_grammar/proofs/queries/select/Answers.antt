use Rattle.std.proofs.Common.{refl, Err}
use Rattle.bql_lexer.specs.declared.kind.Kind.TheVariants as kind
use Rattle.bql_grammar.specs.Grammar.{flag, shown, behind_distinct, behind_targets}
use Rattle.bql_grammar.specs.Read.{targets_of, select_of}
use Rattle.bql_grammar.specs.Stopping.{IsFresh, IsClear}
use Rattle.bql_grammar.proofs.MovingFacts.{distinct_moves, shown_moves}
use Rattle.bql_grammar.proofs.LackingFacts.{lacks_behind_targets, distinct_begun}
use Rattle.bql_grammar.proofs.ClauseFacts.{stuck_first, gives_then, gives_then_by}
use Rattle.bql_grammar.proofs.queries.select.Goals as goal

pub returns-in-Err : goal.returns-in-Err
returns-in-Err c =
    gives_then_by IsFresh IsFresh (flag kind.Distinct) (behind_distinct c.args.text.now) select_of
    c.args.tokens.now c.flag-distinct.result.0 c.flag-distinct.result.1.now (Err c.in-Err.stuck)
    (λ rest. refl)
    (λ v rest. refl) distinct_moves c.flag-distinct.ensures
    (distinct_begun c.args.text.now c.args.tokens.now c.flag-distinct.result.0
    c.flag-distinct.result.1.now c.flag-distinct.ensures.read)
    (stuck_first IsFresh (shown c.args.text.now) (behind_targets c.flag-distinct.result.0) targets_of
    select_of
    c.flag-distinct.result.1.now c.in-Err.stuck (λ rest. refl)
    (lacks_behind_targets c.flag-distinct.result.0) c.in-Err.ensures)

pub returns : goal.returns
returns c =
    gives_then_by IsFresh IsFresh (flag kind.Distinct) (behind_distinct c.args.text.now) select_of
    c.args.tokens.now c.flag-distinct.result.0 c.flag-distinct.result.1.now c.behind_targets.result
    (λ rest. refl) (λ v rest. refl) distinct_moves c.flag-distinct.ensures
    (distinct_begun c.args.text.now c.args.tokens.now c.flag-distinct.result.0
    c.flag-distinct.result.1.now c.flag-distinct.ensures.read)
    (gives_then IsFresh IsClear (shown c.args.text.now) (behind_targets c.flag-distinct.result.0) select_of
    c.flag-distinct.result.1.now (targets_of c.in-Ok.found.0) c.in-Ok.found.1.now
    c.behind_targets.result (λ rest. refl) (λ v rest. refl)
    (lacks_behind_targets c.flag-distinct.result.0) (shown_moves c.args.text.now)
    c.in-Ok.ensures
    c.behind_targets.ensures)
