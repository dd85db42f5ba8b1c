use Rattle.bean_grammar.specs.Lexeme.{lexemes}
use Rattle.bean_postings.proofs.CostPartFacts.{day_part, label_part, merge_part, part_or_none}
use Rattle.bean_postings.proofs.cost_part.part.Goals as goal

pub returns-in-Some-clause-read : goal.returns-in-Some-clause-read
returns-in-Some-clause-read c = day_part _ _ _ c.in-Some.ensures.read

pub returns-in-Some-text-clause-read : goal.returns-in-Some-text-clause-read
returns-in-Some-text-clause-read c =
    label_part _ _ _ c.in_default.ensures.read c.in-Some-text.ensures.read

pub returns-in-Some-after_sign-clause-read : goal.returns-in-Some-after_sign-clause-read
returns-in-Some-after_sign-clause-read c =
    merge_part _ _ c.in_default.ensures.read c.in_default-text.ensures.read
    c.in-Some-after_sign.ensures.front

pub returns-clause-read : goal.returns-clause-read
returns-clause-read c =
    part_or_none _ c.number_part.result (λ x. lexemes x.now) c.in_default.ensures.read
    c.in_default-text.ensures.read c.in_default-after_sign.ensures.front c.number_part.ensures.read
