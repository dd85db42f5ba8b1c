-- The digits of the numbers below 100.
use Rattle.std.proofs.Common.{◌≡◌, ℕ, zero, suc, ◌+◌, ◌-◌, ◌*◌, ◌/◌, ◌%◌, ◌<◌, Bool, true, ◌&&◌, T, eqb}
use Rattle.std.proofs.Common.{get_or, inl, inr, arith, eq-zero-or-pos, eqb→eq}
use lib.Ieee.Fits.{and_l, and_r}
use Rattle.number_texts.specs.declared.digits.TheConstants.{PAIRS}

abbrev are_pairs : ℕ → Bool
are_pairs zero = true
are_pairs (suc n) =
    (eqb (get_or PAIRS (n * 2) 0) (48 + n / 10 % 10) && eqb (get_or PAIRS (n * 2 + 1) 0) (48 + n % 10))
    && are_pairs n

below : (count n : ℕ) → T (are_pairs count) → n < count
    → (get_or PAIRS (n * 2) 0 ≡ 48 + n / 10 % 10) × (get_or PAIRS (n * 2 + 1) 0 ≡ 48 + n % 10)
below zero n all less = absurd (omega arith)
below (suc count) n all less =
    elim (eq-zero-or-pos (count - n)) [
      | inl none ↦ let last : n ≡ count = omega arith in
          let both = and_l _ (are_pairs count) all in
          rw last (eqb→eq _ _ (and_l _ _ both), eqb→eq _ _ (and_r _ _ both))
      | inr some ↦ below count n (and_r _ (are_pairs count) all) (omega arith)
    ]

pub pair_at : (n : ℕ) → n < 100
    → (get_or PAIRS (n * 2) 0 ≡ 48 + n / 10 % 10) × (get_or PAIRS (n * 2 + 1) 0 ≡ 48 + n % 10)
pair_at n less = below 100 n tt less

-- the last two digits of a number, and the two before them
pub first_of_last : (n : ℕ) → 48 + n % 100 / 10 % 10 ≡ 48 + n / 10 % 10
first_of_last n = omega arith

pub second_of_last : (n : ℕ) → 48 + n % 100 % 10 ≡ 48 + n % 10
second_of_last n = omega arith

pub first_of_four : (n : ℕ) → 48 + n / 100 % 100 / 10 % 10 ≡ 48 + n / 10 / 10 / 10 % 10
first_of_four n = omega arith

pub second_of_four : (n : ℕ) → 48 + n / 100 % 100 % 10 ≡ 48 + n / 10 / 10 % 10
second_of_four n = omega arith
