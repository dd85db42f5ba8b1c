use Rattle.std.proofs.Common.{refl}
use Rattle.bql_tree.specs.Part.{part_of}
use Rattle.bql_tree.specs.declared.function.Scope.TheVariants.{Postings}
use Rattle.bql_grammar.specs.Expression.{expression}
use Rattle.bql_grammar.specs.Grammar.{with_name}
use Rattle.bql_grammar.specs.Read.{target_of}
use Rattle.bql_grammar.specs.Stopping.{IsFresh, IsClear}
use Rattle.bql_grammar.proofs.MovingFacts.{expression_moves}
use Rattle.bql_grammar.proofs.LackingFacts.{lacks_with_name}
use Rattle.bql_grammar.proofs.ClauseFacts.{stuck_first, gives_then, expression_stuck}
use Rattle.bql_grammar.proofs.reading.target.Goals as goal

pub returns-in-Err-clause-read : goal.returns-in-Err-clause-read
returns-in-Err-clause-read c =
    stuck_first IsFresh (expression Postings) (with_name c.args.text.now) part_of target_of
    c.args.tokens.now c.in-Err.stuck (λ rest. refl) (lacks_with_name c.args.text.now)
    (expression_stuck Postings c.args.tokens.now c.in-Err.stuck c.in-Err.ensures.read
    c.in-Err.ensures.inside c.in-Err.ensures.begun)

pub returns-clause-read : goal.returns-clause-read
returns-clause-read c =
    gives_then IsFresh IsClear (expression Postings) (with_name c.args.text.now) target_of
    c.args.tokens.now (part_of c.in-Ok.found.0) c.in-Ok.found.1.now c.with_name.result
    (λ rest. refl) (λ v rest. refl) (lacks_with_name c.args.text.now) (expression_moves Postings) c.in-Ok.ensures.read
    c.with_name.ensures
