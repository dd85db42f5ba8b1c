use Rattle.std.proofs.Common.{◌≡◌, ◌≤◌, ◌+◌, ◌-◌, ◌++◌, ◌∷◌, [], List, ℕ, length, drop, take, replicate}
use Rattle.std.proofs.Common.{cond, sym, ap, ◌∙◌, arith, append_assoc, length-append}
use Rattle.std.specs.Fmt.{decimal}
use Rattle.std.proofs.lemmas.List.{length-replicate, replicate-append-replicate}
use Rattle.number_texts.specs.Digits.{behind_point, digits_of}
use Rattle.number_texts.proofs.NumberFacts.{window}
use Rattle.number_texts.proofs.RunFacts.{behind_spaces, right_in_parts}
use Rattle.number_texts.proofs.digits.push_few_parts_right.Goals as goal

pub returns : goal.returns
returns c =
    let out = c.args.out.now in
    let start = c.put_few_parts-start in
    let text : List ℕ = cond c.args.is_negative (45 ∷ []) []
    ++ (decimal c.args.whole ++ behind_point (digits_of c.args.shown c.args.digits)) in
    let from = c.saturating_sub-from.result in
    let kept = c.min-kept.result in
    let rest = c.args.behind - kept in
    let spaces = start.result - from in
    let left = c.args.width - length text in
    let first : from ≤ start.result = omega (arith, c.saturating_sub-from.ensures) in
    let few : kept ≤ 8 = omega (arith, c.min-kept.ensures) in
    let front : List ℕ = replicate spaces 32 ++ text in
    let shown : List ℕ = front ++ replicate kept 32 in
    let behind : List ℕ = replicate (48 - kept) 32 in
    let seen : drop from start.new.text ≡ shown ++ behind =
    behind_spaces start.new.text start.result from first start.ensures.spaces
    ∙ ap (λ l. replicate spaces 32 ++ l) start.ensures.text
    ∙ sym (append_assoc (replicate spaces 32) text (replicate 48 32))
    ∙ ap (λ l. front ++ l) (sym (replicate-append-replicate kept (48 - kept) 32
    ∙ ap (λ k. replicate k 32) (let e : kept + (48 - kept) ≡ 48 = omega (arith, few) in e)))
    ∙ sym (append_assoc front (replicate kept 32) behind) in
    let long = length-append front (replicate kept 32) in
    let wide = length-append (replicate spaces 32) text in
    let some = length-replicate {A = ℕ} spaces 32 in
    let more = length-replicate {A = ℕ} kept 32 in
    let padded = c.push_spaces.new.out in
    let many : from + 48 - from ≡ 48 = omega arith in
    c.in_ok-push_spaces-2.ensures
    ∙ ap (λ l. l ++ replicate rest 32)
    (c.truncate.ensures.items
    ∙ window padded.items c.extend_from_slice.new.self.items (drop from start.new.text) shown behind
    48 _ (omega (arith, start.ensures.start, long, wide, some, more, first, few))
    (omega (
      arith,
      start.ensures.start,
      long,
      wide,
      some,
      more,
      first,
      few,
      c.len.ensures,
      c.in_ok-extend_from_slice.ensures.len,
      padded.ok,
    ))
    (c.in_ok-extend_from_slice.ensures.items
    ∙ ap (λ k. padded.items ++ take k (drop from start.new.text)) many) seen
    ∙ ap (λ l. l ++ shown) c.in_ok-push_spaces.ensures)
    ∙ right_in_parts out.items text c.saturating_sub.result spaces left kept rest c.args.behind
    (omega (
      arith,
      start.ensures.start,
      c.saturating_sub-before.ensures,
      c.saturating_sub-from.ensures,
      c.saturating_sub.ensures,
    ))
    (omega (arith, c.min-kept.ensures))
