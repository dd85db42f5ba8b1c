-- Where no number of a ledger is what is due.
use Rattle.std.proofs.Common.{◌≡◌, ℕ, ◌+◌, ◌-◌, ◌*◌, ◌^◌, ◌<◌, ◌≤◌, ℤ, pos, ◌*ℤ◌, Bool, true, false}
use Rattle.std.proofs.Common.{nat_lt, refl, ap, sym, ◌∙◌, subst, arith}
use Rattle.std.proofs.lemmas.Grind.{common_steps}
use Rattle.std.proofs.lemmas.Int.{unsigned_abs-mul}
use Rattle.std.proofs.lemmas.Nat.{pow-add}
use Rattle.std.proofs.Math.Nat.{mul-le-mul_right}
use Rattle.std.specs.Int.RustNames.{unsigned_abs}
use Rattle.bean_base.proofs.PowerFacts.{product_lt}
use Rattle.bean_base.specs.Decimal.{IsLedger, scaled}
use Rattle.bean_base.specs.declared.num.Num.{Num}
use Rattle.bean_base.specs.Counts.{at_16}
use Rattle.bean_interp.proofs.CountFacts.{scaled_16}

-- every number of a ledger is below 10^12
pub number_lt : (n : Num) → unsigned_abs (at_16 n) < 10 ^ 28
number_lt n =
    let p = n.places in
    let few : p ≤ 8 = n.in_range.0 in
    let all : 12 + p + (16 - p) ≡ 28 = omega arith in
    let below =
    product_lt (unsigned_abs n.count) (10 ^ (16 - p)) (12 + p) (16 - p) n.in_range.1
    (omega arith) in
    rw (unsigned_abs-mul n.count (pos (10 ^ (16 - p))))
    (subst (λ e. unsigned_abs n.count * 10 ^ (16 - p) < 10 ^ e) all below)

-- a count that is too wide for its decimals is no number's
pub too_wide : (z : ℤ) (d : ℕ) → d ≤ 8 → ¬ IsLedger z d → (n : Num)
    → ¬ (at_16 n ≡ z *ℤ pos (10 ^ (16 - d)))
too_wide z d few never n is = by (nat_lt (unsigned_abs z) (10 ^ (12 + d))) refl
  where
    small : unsigned_abs z * 10 ^ (16 - d) < 10 ^ 28
    small = subst (λ k. k < 10 ^ 28) (ap unsigned_abs is ∙ unsigned_abs-mul z (pos (10 ^ (16 - d))))
        (number_lt n)

    by : (b : Bool) → nat_lt (unsigned_abs z) (10 ^ (12 + d)) ≡ b → ⊥
    by true lt = never (few, grind (arith, common_steps, lt))
    by false ge =
        let all : 12 + d + (16 - d) ≡ 28 = omega arith in
        let split : 10 ^ (12 + d) * 10 ^ (16 - d) ≡ 10 ^ 28 =
        sym (pow-add 10 (12 + d) (16 - d)) ∙ ap (λ e. 10 ^ e) all in
        let least : 10 ^ (12 + d) ≤ unsigned_abs z = grind (arith, common_steps, ge) in
        let large = mul-le-mul_right (10 ^ (16 - d)) least in
        omega (arith, small, split, large)

-- a count of no 10^-8 is no number's
pub not_in_8 : (count : ℤ) → ((z : ℤ) → ¬ (z *ℤ pos (10 ^ 8) ≡ count)) → (n : Num)
    → ¬ (at_16 n ≡ count)
not_in_8 count never n is =
    never (scaled n.count n.places 8) (scaled_16 n.count n.places n.in_range.0 ∙ is)
