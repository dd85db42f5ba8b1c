-- The text of a day has so many characters.
use Rattle.std.proofs.Common.{◌≡◌, List, ℕ, ◌∷◌, ◌++◌, ◌∙◌, arith, length-append}
use Rattle.std.specs.Int.RustNames.{unsigned_abs}
use Rattle.bean_base.specs.declared.days.Day.{Day}
use Rattle.number_texts.specs.Digits.{digits_of, day_text}
use Rattle.number_texts.proofs.DigitsFacts.{length-digits_of}
use Rattle.number_texts.proofs.PrintableFacts.{printable_day}
use Rattle.cell_texts.specs.Width.{text_width}
use Rattle.cell_texts.proofs.Printable.{width_printable}

pub day_width : (d : Day) → text_width (day_text d) ≡ 10
day_width d =
    let day : List ℕ = digits_of 2 d.date.day in
    let month : List ℕ = digits_of 2 d.date.month in
    let year : List ℕ = digits_of 4 (unsigned_abs d.date.year) in
    width_printable (day_text d) (printable_day d)
    ∙ omega (
      arith,
      length-append year (45 ∷ (month ++ 45 ∷ day)),
      length-append month
          (45 ∷ day),
      length-digits_of 4 (unsigned_abs d.date.year),
      length-digits_of 2 d.date.month,
      length-digits_of 2 d.date.day,
    )
