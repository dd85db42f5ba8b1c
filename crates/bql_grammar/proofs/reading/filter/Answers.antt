use Rattle.std.proofs.Common.{refl, Some, None, Ok, Err}
use Rattle.theory.specs.Form.{made}
use Rattle.theory.proofs.FormFacts.{reads_made}
use Rattle.bql_grammar.specs.Expression.{expression}
use Rattle.bql_tree.specs.Part.{part_of}
use Rattle.bql_grammar.specs.Grammar.{filtered, some}
use Rattle.bql_grammar.specs.Read.{filter_of}
use Rattle.bql_grammar.specs.Stopping.{IsFresh, IsClear, IsClearFor}
use Rattle.bql_grammar.proofs.MovingFacts.{expression_moves, any_word_moves}
use Rattle.bql_grammar.proofs.LackingFacts.{lacks_made}
use Rattle.bql_grammar.proofs.ClauseFacts.{word_stands, stuck_first, gives_then}
use Rattle.bql_grammar.proofs.ClauseFacts.{expression_stuck}
use Rattle.bql_grammar.proofs.reading.filter.Goals as goal

pub returns-in-Err : goal.returns-in-Err
returns-in-Err c =
    word_stands (IsClearFor c.args.word) c.args.word (filtered c.args.scope) (made None) filter_of
    c.args.tokens.now _ _ (Err c.in-Err.stuck) (λ t rest. refl) (any_word_moves c.args.word)
    c.in-Some.ensures.front
    (stuck_first IsFresh (expression c.args.scope) some part_of filter_of c.in-Some.behind.now
    c.in-Err.stuck (λ rest. refl) (λ p. lacks_made (Some p))
    (expression_stuck c.args.scope c.in-Some.behind.now c.in-Err.stuck c.in-Err.ensures.read
    c.in-Err.ensures.inside c.in-Err.ensures.begun))

pub returns : goal.returns
returns c =
    word_stands (IsClearFor c.args.word) c.args.word (filtered c.args.scope) (made None) filter_of
    c.args.tokens.now _ _ (Ok (Some c.in-Ok.found.0, c.in-Ok.found.1)) (λ t rest. refl)
    (any_word_moves c.args.word) c.in-Some.ensures.front
    (gives_then IsFresh IsClear (expression c.args.scope) some filter_of c.in-Some.behind.now
    (part_of c.in-Ok.found.0) c.in-Ok.found.1.now (Ok (Some c.in-Ok.found.0, c.in-Ok.found.1))
    (λ rest. refl) (λ v rest. refl) (λ p. lacks_made (Some p)) (expression_moves c.args.scope) c.in-Ok.ensures.read
    (reads_made (Some (part_of c.in-Ok.found.0)) c.in-Ok.found.1.now))
