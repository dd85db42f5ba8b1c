use Rattle.std.proofs.Common.{◌≡◌, ◌+◌, ◌-◌, ◌++◌, ℕ, List, length, replicate, take, drop, ap, sym, ◌∙◌, arith}
use Rattle.std.proofs.Common.{append_assoc}
use Rattle.std.proofs.Math.Seq.{take-append-add}
use Rattle.number_texts.proofs.Among.{among, first_put, put_behind}
use Rattle.number_texts.proofs.plain.push_ends.Goals as goal

pub returns : goal.returns
returns g c =
    let n = g.row.N in
    let out = c.args.out.now in
    let old : List ℕ = out.items in
    let first = c.args.first.now in
    let last = c.args.last.now in
    let len = c.args.len in
    let spaces = c.args.spaces in
    let start = c.len-start.result in
    let at : start ≡ length old = omega (arith, c.len-start.ensures, out.ok) in
    let ends : start + (len + spaces) ≡ length old + (len + spaces) = omega (arith, at) in
    let behind : List ℕ = first ++ replicate (64 - n) 32 in
    c.truncate.ensures.items
    ∙ ap (take (start + (len + spaces)))
    (c.put_at-2.ensures.items
    ∙ ap (λ l. take (start + (len - n)) l ++ last ++ drop (start + (len - n) + n) l)
    (c.put_at.ensures.items
    ∙ first_put old c.extend_from_slice.new.self.items first start n at
    c.in_ok-extend_from_slice.ensures.items)
    ∙ put_behind old behind last (start + (len - n)) n (len - n) (omega (arith, at)))
    ∙ (λ i. take (ends i)
    (old ++ (take (len - n) behind ++ last ++ drop (len - n + n) behind)))
    ∙ take-append-add old (take (len - n) behind ++ last ++ drop (len - n + n) behind) (len + spaces)
    ∙ ap (λ l. old ++ l)
    (among first last n len spaces c.told-first c.told-last c.requires.many c.requires.few
    (omega (arith, c.requires.few, c.requires.short, c.requires.spaces)))
    ∙ sym (append_assoc old (take (len - n) first ++ last) (replicate spaces 32))
