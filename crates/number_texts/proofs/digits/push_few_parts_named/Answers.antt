use Rattle.std.proofs.Common.{◌≡◌, ◌+◌, ◌-◌, ◌++◌, ◌∷◌, [], List, ℕ, drop, get_or, take, replicate}
use Rattle.std.proofs.Common.{cond, sym, ap, ◌∙◌, arith, append_assoc, length-append}
use Rattle.std.specs.Fmt.{decimal}
use Rattle.number_texts.specs.Digits.{behind_point, digits_of}
use Rattle.number_texts.proofs.NumberFacts.{three_of, window}
use Rattle.number_texts.proofs.digits.push_few_parts_named.Goals as goal

pub returns : goal.returns
returns c =
    let out = c.args.out.now in
    let name = c.args.name.now in
    let start = c.put_few_parts-start in
    let text : List ℕ = cond c.args.is_negative (45 ∷ []) []
    ++ (decimal c.args.whole ++ behind_point (digits_of c.args.shown c.args.digits)) in
    let named : List ℕ = 32 ∷ get_or name 0 0 ∷ get_or name 1 0 ∷ get_or name 2 0 ∷ [] in
    let long = length-append text named in
    let many : start.result + 48 - start.result ≡ 48 = omega arith in
    c.truncate.ensures.items
    ∙ window out.items c.extend_from_slice.new.self.items (drop start.result start.new.text)
    (text ++ named) (replicate 44 32) 48 _ (omega (arith, start.ensures.start, long))
    (omega (
      arith,
      start.ensures.start,
      long,
      c.len.ensures,
      c.in_ok-extend_from_slice.ensures.len,
      out.ok,
    ))
    (c.in_ok-extend_from_slice.ensures.items
    ∙ ap (λ k. out.items ++ take k (drop start.result start.new.text)) many)
    (start.ensures.text ∙ sym (append_assoc text named (replicate 44 32)))
    ∙ sym (append_assoc out.items text named)
    ∙ ap (λ l. (out.items ++ text) ++ 32 ∷ l) (three_of name c.told-name)
