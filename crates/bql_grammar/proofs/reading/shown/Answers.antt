use Rattle.std.proofs.Common.{refl}
use Rattle.bql_lexer.specs.declared.kind.Kind.TheVariants as kind
use Rattle.bql_grammar.specs.Grammar.{all_shown, targets}
use Rattle.bql_grammar.specs.Read.{targets_of}
use Rattle.bql_grammar.specs.Stopping.{IsFresh}
use Rattle.bql_grammar.proofs.LackingFacts.{begins_shown}
use Rattle.bql_grammar.proofs.ClauseFacts.{word_lacks}
use Rattle.bql_grammar.proofs.reading.shown.Goals as goal

pub returns-in_default : goal.returns-in_default
returns-in_default c =
    word_lacks IsFresh kind.Star all_shown (targets c.args.text.now) targets_of c.args.tokens.now
    c.targets.result (λ rest. refl) c.in_default.ensures.front
    (begins_shown c.args.text.now) c.targets.ensures
