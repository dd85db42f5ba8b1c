use Rattle.std.proofs.Common.{◌≡◌, ◌≤◌, ◌+◌, ◌^◌, ◌++◌, drop, length, refl, sym, ap, ◌∙◌, arith}
use Rattle.std.proofs.Common.{length-append, length-drop}
use Rattle.std.specs.Fmt.{decimal}
use Rattle.std.proofs.Math.Nat.{pow-le-pow_right}
use Rattle.number_texts.proofs.NumberFacts.{length-leading_one, length-pointed, point_put, pointed}
use Rattle.number_texts.proofs.PowerFacts.{looked_up}
use Rattle.number_texts.proofs.digits.put_some_decimals.Goals as goal

pub overflow_add-power_of_ten : goal.overflow_add-power_of_ten
overflow_add-power_of_ten c =
    let unit =
    looked_up c.power_of_ten.result c.args.shown (omega (arith, c.requires.few))
    c.power_of_ten.ensures in
    let bound : 10 ^ c.args.shown ≤ 10 ^ 18 = pow-le-pow_right {n = 10} (omega arith) c.requires.few in
    let small = c.requires.small in
    record { fits = omega (arith, unit, bound, small) }

pub write_digits-point-requires : goal.write_digits-point-requires
write_digits-point-requires c =
    let unit =
    looked_up c.power_of_ten.result c.args.shown (omega (arith, c.requires.few))
    c.power_of_ten.ensures in
    let len =
    length-leading_one _ c.args.shown c.args.digits unit (omega (arith, c.requires.few))
    c.requires.small in
    (omega (arith, len, c.requires.few), c.requires.many)

pub bounds-text-point : goal.bounds-text-point
bounds-text-point c =
    let at = c.write_digits-point in
    let shown = c.args.shown in
    let digits = c.args.digits in
    let behind = drop 40 c.args.text.now in
    let unit =
    looked_up c.power_of_ten.result shown (omega (arith, c.requires.few)) c.power_of_ten.ensures in
    let len =
    length-leading_one (10 ^ shown) shown digits refl (omega (arith, c.requires.few)) c.requires.small in
    let all = ap length (at.ensures.written ∙ ap (λ u. decimal (u + digits) ++ behind) unit) in
    omega (
      arith,
      len,
      all,
      length-drop at.result at.new.buf,
      length-append (decimal (10 ^ shown + digits)) behind,
    )

pub returns-clause-text : goal.returns-clause-text
returns-clause-text c =
    let at = c.write_digits-point in
    let shown = c.args.shown in
    let digits = c.args.digits in
    let behind = drop 40 c.args.text.now in
    let unit =
    looked_up c.power_of_ten.result shown (omega (arith, c.requires.few)) c.power_of_ten.ensures in
    let len =
    length-leading_one (10 ^ shown) shown digits refl (omega (arith, c.requires.few)) c.requires.small in
    let written : drop at.result at.new.buf ≡ decimal (10 ^ shown + digits) ++ behind =
    at.ensures.written ∙ ap (λ u. decimal (u + digits) ++ behind) unit in
    let all = ap length written in
    point_put at.new.buf behind at.result shown digits (omega (arith, c.requires.few))
    c.requires.small
    (omega (
      arith,
      len,
      all,
      length-drop at.result at.new.buf,
      length-append (decimal (10 ^ shown + digits)) behind,
    ))
    written
    ∙ ap (λ l. l ++ behind) (sym (pointed shown digits c.requires.some))

pub returns-clause-start : goal.returns-clause-start
returns-clause-start c =
    let unit =
    looked_up c.power_of_ten.result c.args.shown (omega (arith, c.requires.few))
    c.power_of_ten.ensures in
    let len =
    length-leading_one _ c.args.shown c.args.digits unit (omega (arith, c.requires.few))
    c.requires.small in
    omega (
      arith,
      len,
      c.write_digits-point.ensures.start,
      length-pointed c.args.shown c.args.digits c.requires.some,
    )
