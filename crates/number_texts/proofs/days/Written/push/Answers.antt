use Rattle.std.proofs.Common.{◌≤◌, ◌++◌, ◌-◌, ℕ, length, length-append, replicate, ap, ◌∙◌, arith}
use Rattle.std.proofs.lemmas.List.{length-replicate}
use Rattle.number_texts.specs.Digits.{day_text}
use Rattle.number_texts.proofs.RunFacts.{few_behind, more_behind}
use Rattle.number_texts.proofs.days.Written.push.Goals as goal

pub returns : goal.returns
returns c =
    let out = c.args.out.now in
    let text = day_text c.args.self.now.day in
    let kept = c.min-kept.result in
    let rest = c.args.behind - kept in
    let few : kept ≤ 6 = omega (arith, c.min-kept.ensures) in
    let long = ap length c.args.self.now.is_text in
    let parts = length-append text (replicate 6 32) in
    c.in_ok-push_spaces.ensures
    ∙ ap (λ l. l ++ replicate rest 32)
    (c.truncate.ensures.items
    ∙ few_behind out.items text c.extend_from_slice.new.self.items 6 kept _ few
    (omega (
      arith,
      few,
      long,
      parts,
      length-replicate {A = ℕ} 6 32,
      c.len.ensures,
      c.in_ok-extend_from_slice.ensures.len,
      out.ok,
    ))
    (c.in_ok-extend_from_slice.ensures.items ∙ ap (λ l. out.items ++ l) c.args.self.now.is_text))
    ∙ more_behind out.items text kept rest c.args.behind (omega (arith, c.min-kept.ensures))
