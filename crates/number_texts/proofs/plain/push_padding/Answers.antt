use Rattle.std.proofs.Common.{◌≡◌, ◌≤◌, ◌+◌, ◌-◌, length, arith, ◌∙◌}
use Rattle.number_texts.proofs.RunFacts.{few_spaces}
use Rattle.number_texts.proofs.plain.push_padding.Goals as goal

pub returns : goal.returns
returns c =
    let out = c.args.out.now in
    let count = c.args.count in
    let few : count ≤ 48 = omega (arith, c.if-count-gt-SPACES.false) in
    let at : c.len.result - (48 - count) ≡ length out.items + count =
    omega (arith, few, c.len.ensures, c.in_ok-extend_from_slice.ensures.len, out.ok) in
    c.truncate.ensures.items
    ∙ few_spaces out.items c.extend_from_slice.new.self.items 48 count _ few at
    c.in_ok-extend_from_slice.ensures.items
