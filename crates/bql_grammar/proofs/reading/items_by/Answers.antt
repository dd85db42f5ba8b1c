use Rattle.std.proofs.Common.{refl, None}
use Rattle.theory.specs.Form.{made}
use Rattle.bql_grammar.specs.Grammar.{by_items}
use Rattle.bql_grammar.specs.Read.{group_of}
use Rattle.bql_grammar.specs.Stopping.{IsClearFor}
use Rattle.bql_grammar.proofs.MovingFacts.{any_word_moves}
use Rattle.bql_grammar.proofs.ClauseFacts.{word_stands}
use Rattle.bql_grammar.proofs.reading.items_by.Goals as goal

pub returns-in-Some : goal.returns-in-Some
returns-in-Some c =
    word_stands (IsClearFor c.args.word) c.args.word by_items (made None) group_of
    c.args.tokens.now _ _ c.by_items.result (λ t rest. refl) (any_word_moves c.args.word)
    c.in-Some.ensures.front c.by_items.ensures
