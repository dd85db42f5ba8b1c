use Rattle.std.proofs.Common.{refl, Ok, Err}
use Rattle.theory.proofs.FormFacts.{reads_made}
use Rattle.bql_lexer.specs.declared.kind.Kind.TheVariants as kind
use Rattle.bql_grammar.specs.Expression.{token, then}
use Rattle.bql_grammar.specs.Front.{of_kind}
use Rattle.bql_grammar.proofs.FormFacts.{reads_then, none_here}
use Rattle.bql_grammar.specs.Grammar.{journal, balances, a_journal, some_balances}
use Rattle.bql_grammar.specs.Grammar.{made_journal, made_balances}
use Rattle.bql_grammar.specs.Read.{journal_of, balances_of, read_of}
use Rattle.bql_grammar.specs.declared.clauses.QueryRead.TheVariants.{Journal, Balances}
use Rattle.bql_grammar.specs.Stopping.{IsFresh}
use Rattle.bql_grammar.proofs.MovingFacts.{first_word}
use Rattle.bql_grammar.proofs.LackingFacts.{lacks_made, begins_fixed, begins_balances}
use Rattle.bql_grammar.proofs.ClauseFacts.{fresh_before, none_at_first}
use Rattle.bql_grammar.proofs.ClauseFacts.{word_stands, word_lacks, gives_behind, stuck_first}
use Rattle.bql_grammar.proofs.queries.fixed_clauses.Goals as goal

pub returns-in-Err : goal.returns-in-Err
returns-in-Err c =
    word_stands IsFresh kind.Journal a_journal (then (token kind.Balances) some_balances) read_of
    c.args.tokens.now _ _ (Err c.in-Err.stuck) (λ t rest. refl)
    (first_word kind.Journal refl) c.in-Some.ensures.front
    (stuck_first IsFresh journal made_journal journal_of read_of c.in-Some.behind.now c.in-Err.stuck
    (λ rest. refl) (λ j. lacks_made _) c.in-Err.ensures)

pub returns-in-Some : goal.returns-in-Some
returns-in-Some c =
    word_stands IsFresh kind.Journal a_journal (then (token kind.Balances) some_balances) read_of
    c.args.tokens.now _ _ (Ok (Journal c.in-Ok.found.0, c.in-Ok.found.1)) (λ t rest. refl)
    (first_word kind.Journal refl)
    c.in-Some.ensures.front
    (reads_then journal made_journal c.in-Some.behind.now (journal_of c.in-Ok.found.0)
    c.in-Ok.found.1.now _ c.in-Ok.found.1.now (λ rest. refl) (λ v rest. refl)
    c.in-Ok.ensures (reads_made _ c.in-Ok.found.1.now))

pub returns-in_default-after : goal.returns-in_default-after
returns-in_default-after c =
    word_lacks IsFresh kind.Journal a_journal (then (token kind.Balances) some_balances) read_of
    c.args.tokens.now (Err _) (λ rest. refl) c.in_default.ensures.front begins_fixed
    (none_at_first (then (token kind.Balances) some_balances) read_of c.args.tokens.now _
    c.before-in_default-after.ensures
    (none_here (of_kind kind.Balances) some_balances c.args.tokens.now
    c.in_default-after.ensures.front) begins_balances)

pub returns-in-Err-balances : goal.returns-in-Err-balances
returns-in-Err-balances c =
    word_lacks IsFresh kind.Journal a_journal (then (token kind.Balances) some_balances) read_of
    c.args.tokens.now (Err c.in-Err-balances.stuck) (λ rest. refl) c.in_default.ensures.front
    begins_fixed
    (gives_behind IsFresh IsFresh (of_kind kind.Balances) some_balances read_of c.args.tokens.now _ _
    (Err c.in-Err-balances.stuck) (λ t rest. refl) (first_word kind.Balances refl)
    c.in-Some-after.ensures.front
    (stuck_first IsFresh balances made_balances balances_of read_of c.in-Some-after.behind.now
    c.in-Err-balances.stuck (λ rest. refl) (λ b. lacks_made _)
    (fresh_before balances balances_of c.in-Some-after.behind.now _ c.in-Err-balances.ensures)))

pub returns : goal.returns
returns c =
    word_lacks IsFresh kind.Journal a_journal (then (token kind.Balances) some_balances) read_of
    c.args.tokens.now (Ok (Balances c.in-Ok-balances.found.0, c.in-Ok-balances.found.1))
    (λ rest. refl) c.in_default.ensures.front begins_fixed
    (gives_behind IsFresh IsFresh (of_kind kind.Balances) some_balances read_of c.args.tokens.now _ _
    (Ok (Balances c.in-Ok-balances.found.0, c.in-Ok-balances.found.1)) (λ t rest. refl)
    (first_word kind.Balances refl)
    c.in-Some-after.ensures.front
    (reads_then balances made_balances c.in-Some-after.behind.now
    (balances_of c.in-Ok-balances.found.0) c.in-Ok-balances.found.1.now _
    c.in-Ok-balances.found.1.now (λ rest. refl) (λ v rest. refl)
    c.in-Ok-balances.ensures (reads_made _ c.in-Ok-balances.found.1.now)))
