use Rattle.std.proofs.Common.{subst}
use Rattle.bean_grammar.specs.Literal.{IsDay}
use Rattle.bean_grammar.proofs.MetadataFacts.{reads_plain}
use Rattle.bean_grammar.proofs.entry.plain.Goals as goal

pub returns-in-Day-clause-read : goal.returns-in-Day-clause-read
returns-in-Day-clause-read c =
    reads_plain _ _ _ _ _ _ c.in_ok-token.ensures.front c.in-Day.is (
      c.day_of.result,
      subst (λ bs. IsDay bs c.day_of.result) c.text-text.ensures
          c.day_of.ensures,
      c.day_value.ensures,
    )
