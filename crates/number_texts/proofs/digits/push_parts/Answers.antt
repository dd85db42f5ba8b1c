use Rattle.std.proofs.Common.{ℕ, List, ◌++◌, ◌∷◌, [], cond, ap, ◌∙◌}
use Rattle.std.specs.Fmt.{decimal}
use Rattle.number_texts.specs.Digits.{behind_point, digits_of}
use Rattle.number_texts.proofs.NumberFacts.{few_parts}
use Rattle.number_texts.proofs.digits.push_parts.Goals as goal

pub returns-in_ok-push_few_parts-in-Ok : goal.returns-in_ok-push_few_parts-in-Ok
returns-in_ok-push_few_parts-in-Ok c =
    let shown = c.args.parts.shown in
    let digits = c.args.parts.digits in
    let sign : List ℕ = cond c.args.is_negative (45 ∷ []) [] in
    let out = c.args.out.now.items ++ sign in
    c.in_ok-push_few_parts-in-Ok.ensures
    ∙ ap (λ n. out ++ (decimal n ++ behind_point (digits_of shown digits))) c.in-Ok.ensures.1
    ∙ ap (λ l. out ++ l) (few_parts c.args.parts.whole shown digits c.args.least c.if-least-parts.true)
