use Rattle.std.proofs.Common.{ℕ, List, ◌++◌, ◌∷◌, [], ◌-◌, cond, max, nat_lt, ap, ◌∙◌}
use Rattle.number_texts.specs.Digits.{digits_of, zeros}
use Rattle.number_texts.proofs.NumberFacts.{pushed_parts}
use Rattle.number_texts.proofs.digits.push_any_parts.Goals as goal

pub returns : goal.returns
returns c =
    let sign : List ℕ = cond c.args.is_negative (45 ∷ []) [] in
    let out = c.args.out.now.items ++ sign in
    let shown = c.args.parts.shown in
    let digits = c.args.parts.digits in
    let whole =
    c.in_ok-extend_from_slice.ensures.items
    ∙ (λ k. c.in_ok-push_if.ensures k ++ (c.as_bytes.ensures.value ∙ c.format.ensures.text) k) in
    let put = rw c.max.ensures at c.in_ok-push_if-2.ensures in
    let rest = rw c.saturating_sub.ensures at c.in_ok-push_run.ensures in
    rest ∙ ap (λ l. l ++ zeros (c.args.least - shown))
    (c.in_ok-push_digits.ensures ∙ ap (λ l. l ++ digits_of shown digits)
    (put ∙ ap (λ l. l ++ cond (nat_lt 0 (max shown c.args.least)) (46 ∷ []) []) whole))
    ∙ pushed_parts out c.args.parts.whole shown digits c.args.least
