use Rattle.std.proofs.Common.{drop, length, ap, ◌∙◌, arith}
use Rattle.std.proofs.Common.{length-append, length-drop}
use Rattle.std.proofs.lemmas.Fmt.{length-decimal-le}
use Rattle.number_texts.proofs.NumberFacts.{pointed-le}
use Rattle.number_texts.proofs.RunFacts.{spaces_kept}
use Rattle.number_texts.specs.Digits.{behind_point, digits_of}
use Rattle.number_texts.proofs.digits.put_few_parts.Goals as goal

pub write_digits-start-requires : goal.write_digits-start-requires
write_digits-start-requires c =
    let point = c.put_decimals-point in
    let decimals = behind_point (digits_of c.args.shown c.args.digits) in
    let few = pointed-le c.args.shown c.args.digits in
    let whole =
    length-decimal-le 20 c.args.whole (omega arith) (omega (arith, c.ranges.whole.fits))
    (omega (arith, c.ranges.whole.fits)) in
    let all = ap length point.ensures.text in (
      omega (arith, few, whole, point.ensures.start, c.requires.few),
      omega (
        arith,
        all,
        point.ensures.start,
        c.requires.many,
        length-drop point.result point.new.text,
        length-append decimals (drop 40 c.args.text.now),
        length-drop 40 c.args.text.now,
      ),
    )

pub put_sign-requires-clause-some : goal.put_sign-requires-clause-some
put_sign-requires-clause-some c =
    let point = c.put_decimals-point in
    let start = c.write_digits-start in
    let decimals = behind_point (digits_of c.args.shown c.args.digits) in
    let few = pointed-le c.args.shown c.args.digits in
    let whole =
    length-decimal-le 20 c.args.whole (omega arith) (omega (arith, c.ranges.whole.fits))
    (omega (arith, c.ranges.whole.fits)) in
    let all = ap length start.ensures.written in (
      omega (arith, few, whole, point.ensures.start, start.ensures.start, c.requires.few),
      omega (arith, start.ensures.start, point.ensures.start, c.requires.many, point.auto.text, start.auto.buf),
    )

pub put_sign-requires-clause-spaces : goal.put_sign-requires-clause-spaces
put_sign-requires-clause-spaces c =
    let point = c.put_decimals-point in
    let start = c.write_digits-start in
    start.ensures.before
    ∙ spaces_kept point.new.text c.args.text.now 40 point.result start.result
    (omega (arith, start.ensures.start)) (omega (arith, point.ensures.start)) c.requires.spaces
    point.ensures.before
