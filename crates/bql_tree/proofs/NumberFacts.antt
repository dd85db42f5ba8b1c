-- Counts, digit by digit, up to a cap.
use Rattle.std.proofs.Common.{◌⊎◌, inl, inr, ◌≡◌, ℕ, ◌+◌, ◌-◌, ◌*◌, ◌^◌, ◌<◌, ◌≤◌, ◌++◌, min, ℤ}
use Rattle.std.proofs.Common.{pos, FitsSigned, to_z, of_z, Bool, true, false, cond, List, [], ◌∷◌}
use Rattle.std.proofs.Common.{Option, None, length, get_or, take, arith, ap, ◌∙◌, filter}
use Rattle.std.proofs.Common.{refl}
use Rattle.std.proofs.lemmas.Bool.Decides.{nat_tests}
use Rattle.std.proofs.lemmas.Int.{ints, to_z-of_z, fits_signed_from_abs}
use Rattle.std.specs.Int.{w128}
use Rattle.query_terms.specs.declared.decimal.Decimal.{Decimal}
use Rattle.std.proofs.lemmas.Grind.{common_steps}
use Rattle.std.proofs.lemmas.List.Elements.{filter_more}
use Rattle.std.proofs.lemmas.Int.Digits.{digits_value_push}
use Rattle.std.specs.Char.{is_ascii_digit, digit_value}
use Rattle.std.specs.Str.Parse.{digits_value}
use Rattle.bean_base.specs.Numeral.{count_of}
use Rattle.query_terms.specs.Wide.{decimal_where, decimal_of}
use Rattle.query_terms.specs.WideCount.{is_wide}
use Rattle.bean_base.proofs.NumeralFacts.{capped_other}
use Rattle.bql_tree.specs.Number.{is_zero, decimal}

cap_step : (n d : ℕ) → d < 10 → min (2 ^ 127) (n * 10 + d) ≡ min (2 ^ 127)
    (min (2 ^ 128 - 1) (min (2 ^ 128 - 1) (min (2 ^ 127) n * 10) + d))
cap_step n d h = omega (arith, h)

digit_value_is : (b : ℕ) → is_ascii_digit b ≡ true → (digit_value b ≡ b - 48) × (b - 48 < 10)
digit_value_is b h = (grind (arith, nat_tests), grind (arith, nat_tests))

pub capped_digit : (bs : List ℕ) (i : ℕ) → i < length bs → is_ascii_digit (get_or bs i 0) ≡ true →
    min (2 ^ 127) (count_of (take (i + 1) bs)) ≡ min (2 ^ 127)
    (min (2 ^ 128 - 1) (min (2 ^ 128 - 1) (min (2 ^ 127) (count_of (take i bs)) * 10) +
    (get_or bs i 0 - 48)))
capped_digit bs i h digit =
    let b = get_or bs i 0 in
    let v = digit_value_is b digit in
    let more = filter_more is_ascii_digit bs i 0 h
    ∙ ap (λ d. filter is_ascii_digit (take i bs) ++ cond d (b ∷ []) []) digit in
    let e = ap (digits_value 10) more ∙ digits_value_push 10 (filter is_ascii_digit (take i bs)) b
    ∙ ap (λ d. count_of (take i bs) * 10 + d) v.0 in
    ap (min (2 ^ 127)) e ∙ cap_step (count_of (take i bs)) (b - 48) v.1

pub ruleset capped = (capped_digit, capped_other)

pub zero_is_ascii : (b : ℕ) → is_zero b ≡ true → b < 128
zero_is_ascii b h = grind (arith, nat_tests)

where_not : (places count : ℕ) (b : Bool) (is : is_wide places (pos count) ≡ b) → b ≡ false
    → decimal_where places (pos count) b is ≡ None
where_not places count true is e = absurd cc
where_not places count false is e = refl

too_wide : (places count : ℕ) → (32 < places) ⊎ (2 ^ 127 ≤ count)
    → is_wide places (pos count) ≡ false
too_wide places count (inl h) = grind (arith, nat_tests, common_steps, ints)
too_wide places count (inr h) = grind (arith, nat_tests, common_steps, ints)

pub many_places : (places count : ℕ) → 32 < places → decimal places count ≡ None
many_places places count h = where_not places count (is_wide places (pos count)) refl
    (too_wide places count (inl h))

pub great_count : (places count : ℕ) → 2 ^ 127 ≤ count → decimal places count ≡ None
great_count places count h = where_not places count (is_wide places (pos count)) refl
    (too_wide places count (inr h))

pub ruleset not_wide = (many_places, great_count)

fits : (n : ℕ) → n < 2 ^ 127 → FitsSigned w128 (pos n)
fits n h = fits_signed_from_abs w128 (pos n) (omega (arith, h))

pub decimal_is : (places count : ℕ) (narrow : ℕ) (signed : ℤ) (r : Option Decimal) → count < 2 ^ 127
    → narrow ≡ places → signed ≡ pos count → r ≡ decimal_of narrow (to_z w128 (of_z w128 signed))
    → r ≡ decimal places count
decimal_is places count narrow signed r low p q is =
    is ∙ ap (λ n. decimal_of n (to_z w128 (of_z w128 signed))) p
    ∙ ap (λ z. decimal_of places (to_z w128 (of_z w128 z))) q
    ∙ ap (decimal_of places) (to_z-of_z w128 (pos count) (fits count low))
