use Rattle.std.proofs.Common.{◌≡◌, ◌≤◌, ◌<◌, ◌+◌, ◌%◌, ◌^◌, length, ap, subst, sym, ◌∙◌, arith, rules}
use Rattle.std.specs.Int.RustNames.{unsigned_abs}
use Rattle.number_texts.proofs.LengthFacts.{short_of_eight}
use Rattle.number_texts.specs.Digits.{number_text}
use Rattle.cell_texts.proofs.widening.fits.Goals as goal

pub returns-in-Ok : goal.returns-in-Ok
returns-in-Ok c = λ short.
    let count = c.args.count in
    let width = c.args.width in
    let same : c.in-Ok.number ≡ unsigned_abs count = search rules in
    let eight : c.args.places ≡ 8 = omega (arith, c.if-places-ne8.false) in
    let few = c.is_short.ensures short in
    subst (λ places. length (number_text count places 0) ≤ width) (sym eight)
    (short_of_eight count width (width + 4) (omega (arith, c.if-width-lt5.false)) (omega arith)
    (subst (λ n. n < 10 ^ (width + 4)) same few.1)
    (omega (arith, same, c.in-Ok.ensures.0)) (ap (λ n. n % 1000000) (sym same) ∙ few.0))
