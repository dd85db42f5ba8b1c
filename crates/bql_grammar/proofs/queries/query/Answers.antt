use Rattle.std.proofs.Common.{refl, subst, []}
use Rattle.theory.specs.Form.{Reads}
use Rattle.theory.proofs.FormFacts.{reads_made}
use Rattle.bql_lexer.specs.declared.kind.Kind.TheVariants as kind
use Rattle.bql_grammar.proofs.FormFacts.{reads_then}
use Rattle.bql_grammar.specs.Grammar.{flag, clauses, behind_clauses, ended, query}
use Rattle.bql_grammar.specs.Read.{read_of}
use Rattle.bql_grammar.specs.Stopping.{IsFresh, IsClear}
use Rattle.bql_grammar.proofs.MovingFacts.{then_moves, clauses_move, flag_moves}
use Rattle.bql_grammar.specs.Nesting.{wanting}
use Rattle.bql_grammar.proofs.LackingFacts.{lacks_behind_clauses}
use Rattle.bql_grammar.proofs.ClauseFacts.{stuck_first, stuck_whole, ends_short, empty_is, not_empty}
use Rattle.bql_grammar.proofs.queries.query.Goals as goal

pub returns-in-Err : goal.returns-in-Err
returns-in-Err c =
    stuck_whole c.args.text.now c.args.tokens.now c.in-Err.stuck
    (stuck_first IsFresh (clauses c.args.text.now) behind_clauses read_of read_of c.args.tokens.now
    c.in-Err.stuck (λ rest. refl) lacks_behind_clauses c.in-Err.ensures)

pub returns-then-is_empty : goal.returns-then-is_empty
returns-then-is_empty c =
    let read = read_of c.in-Ok.found.0 in
    let rest = c.flag.result.1.now in
    subst (λ rest. Reads (query c.args.text.now) c.args.tokens.now read rest)
    (empty_is rest c.if-is_empty.ensures)
    (reads_then (clauses c.args.text.now) behind_clauses c.args.tokens.now read
    c.in-Ok.found.1.now read rest (λ rest. refl) (λ v rest. refl) c.in-Ok.ensures
    (reads_then (flag kind.Semicolon) (ended read) c.in-Ok.found.1.now c.flag.result.0 rest
    read rest (λ rest. refl) (λ v rest. refl) c.flag.ensures (reads_made read rest)))

pub returns : goal.returns
returns c =
    let read = read_of c.in-Ok.found.0 in
    let rest = c.flag.result.1.now in
    let moves = then_moves IsFresh IsClear IsClear (clauses c.args.text.now)
    (λ r. flag kind.Semicolon) (clauses_move c.args.text.now)
    (λ r. flag_moves kind.Semicolon refl) in
    ends_short c.args.text.now c.args.tokens.now read rest _ c.before-else-is_empty.ensures
    (moves.goes c.args.tokens.now c.flag.result.0 rest
    (read, c.in-Ok.found.1.now, c.in-Ok.ensures.read, c.flag.ensures.read) (wanting []) refl)
    (reads_then (clauses c.args.text.now) behind_clauses c.args.tokens.now read
    c.in-Ok.found.1.now read rest (λ rest. refl) (λ v rest. refl) c.in-Ok.ensures
    (reads_then (flag kind.Semicolon) (ended read) c.in-Ok.found.1.now c.flag.result.0 rest
    read rest (λ rest. refl) (λ v rest. refl) c.flag.ensures (reads_made read rest)))
    (not_empty rest c.if-is_empty.ensures)
