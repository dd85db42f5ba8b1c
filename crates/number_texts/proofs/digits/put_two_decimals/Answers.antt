use Rattle.std.proofs.Common.{◌∷◌, drop, set, ◌∙◌, arith}
use Rattle.std.proofs.lemmas.List.{take-set-le}
use Rattle.number_texts.proofs.NumberFacts.{three_put}
use Rattle.number_texts.proofs.digits.put_two_decimals.Goals as goal

pub returns-clause-text : goal.returns-clause-text
returns-clause-text c =
    three_put c.args.text.now 37 46 c.pair-first.result.0 c.pair-first.result.1 (omega (arith, c.requires.many))
    ∙ (λ i. 46 ∷ c.pair-first.ensures.first i ∷ c.pair-first.ensures.second i ∷ drop 40 c.args.text.now)

pub returns-clause-before : goal.returns-clause-before
returns-clause-before c =
    let one = set c.args.text.now 37 46 in
    take-set-le 37 (set one 38 c.pair-first.result.0) 39 c.pair-first.result.1 (omega arith)
    ∙ take-set-le 37 one 38 c.pair-first.result.0 (omega arith)
    ∙ take-set-le 37 c.args.text.now 37 46 (omega arith)
