use Rattle.std.proofs.Common.{refl, Ok, Err}
use Rattle.theory.proofs.FormFacts.{reads_made}
use Rattle.bql_lexer.specs.declared.kind.Kind.TheVariants as kind
use Rattle.bql_grammar.proofs.FormFacts.{reads_then}
use Rattle.bql_grammar.specs.Grammar.{select, a_select, made_select, fixed_clauses}
use Rattle.bql_grammar.specs.Read.{select_of, read_of}
use Rattle.bql_grammar.specs.declared.clauses.QueryRead.TheVariants.{Select}
use Rattle.bql_grammar.specs.Stopping.{IsFresh}
use Rattle.bql_grammar.proofs.MovingFacts.{first_word}
use Rattle.bql_grammar.proofs.LackingFacts.{lacks_made, begins_clauses}
use Rattle.bql_grammar.proofs.ClauseFacts.{word_stands, word_lacks, stuck_first}
use Rattle.bql_grammar.proofs.queries.clauses.Goals as goal

pub returns-in_default : goal.returns-in_default
returns-in_default c =
    word_lacks IsFresh kind.Select (a_select c.args.text.now) fixed_clauses read_of c.args.tokens.now
    c.fixed_clauses.result (λ rest. refl) c.in_default.ensures.front
    (begins_clauses c.args.text.now) c.fixed_clauses.ensures

pub returns-in-Err : goal.returns-in-Err
returns-in-Err c =
    word_stands IsFresh kind.Select (a_select c.args.text.now) fixed_clauses read_of c.args.tokens.now
    _ _ (Err c.in-Err.stuck) (λ t rest. refl) (first_word kind.Select refl)
    c.in-Some.ensures.front
    (stuck_first IsFresh (select c.args.text.now) made_select select_of read_of c.in-Some.behind.now
    c.in-Err.stuck (λ rest. refl) (λ s. lacks_made _) c.in-Err.ensures)

pub returns : goal.returns
returns c =
    word_stands IsFresh kind.Select (a_select c.args.text.now) fixed_clauses read_of c.args.tokens.now
    _ _ (Ok (Select c.in-Ok.found.0, c.in-Ok.found.1)) (λ t rest. refl)
    (first_word kind.Select refl)
    c.in-Some.ensures.front
    (reads_then (select c.args.text.now) made_select c.in-Some.behind.now
    (select_of c.in-Ok.found.0) c.in-Ok.found.1.now _ c.in-Ok.found.1.now (λ rest. refl)
    (λ v rest. refl) c.in-Ok.ensures (reads_made _ c.in-Ok.found.1.now))
