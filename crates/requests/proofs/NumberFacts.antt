-- Numbers from 1 to the most.
use Rattle.std.proofs.Common.{◌≡◌, ℕ, ◌<◌, ◌≤◌, Bool, true, false, List, Some, None, refl, ap, ◌∙◌, arith}
use Rattle.std.specs.Str.Parse.{IsNumeral, digits_value, without_leading_plus}
use Rattle.std.specs.Prelude.{◌^◌, if◌then◌else◌}
use Rattle.clap.specs.Values.{Accepts}
use Rattle.clap.specs.ValueTests.{is_unsigned_in}
use Rattle.clap.specs.declared.builder.value_parser.ValueParser.TheVariants as vp
use Rattle.clap.proofs.ValueTestLemmas.{Accepts-accepts, accepts-Accepts}
use Rattle.requests.specs.Compile.{number_in}

chosen : (b : Bool) (n : ℕ) → b ≡ true → Some n ≡ (if b then Some n else None)
chosen true n e = refl
chosen false n e = let f = e in absurd cc

left : (b : Bool) (n : ℕ) → (b ≡ true → ⊥) → None ≡ (if b then Some n else None)
left true n not = absurd (not refl)
left false n not = refl

pub taken : (text : List ℕ) (most n : ℕ) → IsNumeral 10 (without_leading_plus text)
    → digits_value 10 (without_leading_plus text) < 2 ^ 64 → n ≡ digits_value 10 (without_leading_plus text)
    → 1 ≤ n → n ≤ most → Some n ≡ number_in most text
taken text most n numeral fits is some few =
    ap Some is
    ∙ chosen (is_unsigned_in 1 most text) (digits_value 10 (without_leading_plus text))
    (Accepts-accepts false (vp.Unsigned 1 most) text (numeral, fits, omega (arith, is, some), omega (arith, is, few)))

pub not_taken : (text : List ℕ) (most : ℕ) → (Accepts false (vp.Unsigned 1 most) text → ⊥)
    → None ≡ number_in most text
not_taken text most not =
    left (is_unsigned_in 1 most text) (digits_value 10 (without_leading_plus text))
    (λ e. not (accepts-Accepts false (vp.Unsigned 1 most) text e))
