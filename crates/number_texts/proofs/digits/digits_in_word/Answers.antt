use Rattle.std.proofs.Common.{◌≡◌, ◌<◌, ◌^◌, length, sym, ap, arith}
use Rattle.std.proofs.lemmas.Fmt.{decimal_digit}
use Rattle.number_texts.proofs.NumberFacts.{count_digits}
use Rattle.number_texts.proofs.digits.digits_in_word.Goals as goal

pub returns-then-number-eq0-clause-count : goal.returns-then-number-eq0-clause-count
returns-then-number-eq0-clause-count c =
    let none : c.args.number ≡ 0 = c.if-number-eq0.true in
    sym (ap length (decimal_digit c.args.number (omega arith)))

pub returns-clause-count : goal.returns-clause-count
returns-clause-count c =
    let fits : c.args.number < 10 ^ 64 = omega arith in
    sym (count_digits c.ilog10.result c.args.number c.ilog10.ensures.power_le
    c.ilog10.ensures.next_power_gt fits)
