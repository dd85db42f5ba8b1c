-- Sixteen bytes are a number, and a number is sixteen bytes.
use Rattle.std.proofs.Common.{◌≡◌, ℕ, zero, suc, ◌+◌, ◌*◌, ◌/◌, ◌%◌, ◌^◌, ◌<◌, List, [], ◌∷◌}
use Rattle.std.proofs.Common.{length, refl, sym, ap, subst, ◌∙◌, arith}
use Rattle.std.specs.Int.{w128, byte_len, byte_at, bytes_high_first, from_be_bytes, to_be_bytes}
use Rattle.std.proofs.lemmas.Nat.{div-mul-add, mod-mul-add, rows}
use native.Mathlib.Numerals.{unary_clauses}
use Rattle.std.proofs.Math.Arith.{mod-mul}
use Rattle.query_code.proofs.ByteFormFacts.{AreBytes, IsWide}

-- what bytes are worth, the highest first
worth : List ℕ → ℕ
worth [] = 0
worth (b ∷ bs) = b * 256 ^ length bs + worth bs

power : (k : ℕ) → 256 ^ suc k ≡ 256 * 256 ^ k
power k = simp unary_clauses (omega arith)

power_pos : (k : ℕ) → 0 < 256 ^ k
power_pos zero = omega arith
power_pos (suc k) = let h = power_pos k in omega (arith, power k)

times_below : (b p w : ℕ) → b < 256 → w < p → b * p + w < 256 * p
times_below b p w small below = grind (arith, rows)

worth_below : (bs : List ℕ) → AreBytes bs → worth bs < 256 ^ length bs
unfolding worth
worth_below [] are = omega arith
worth_below (b ∷ bs) are =
    rw (power (length bs))
    (times_below b (256 ^ length bs) (worth bs) (are 0) (worth_below bs (λ i. are (suc i))))

at_place : (k n : ℕ) → byte_at k n ≡ n / 256 ^ k % 256
at_place zero n = omega arith
at_place (suc k) n = refl

long : (k n : ℕ) → length (bytes_high_first k n) ≡ k
long zero n = refl
long (suc k) n = ap suc (long k n)

worth_of : (k n : ℕ) → worth (bytes_high_first k n) ≡ n % 256 ^ k
unfolding worth
worth_of zero n = omega arith
worth_of (suc k) n =
    let whole : n % (256 * 256 ^ k) ≡ (n / 256 ^ k % 256) * 256 ^ k + n % 256 ^ k =
    mod-mul n (omega arith) (power_pos k) in
    rw (long k n, worth_of k n, at_place k n, power k) (sym whole)

regroup : (high b p w : ℕ) → high * (256 * p) + (b * p + w) ≡ (high * 256 + b) * p + w
regroup high b p w = omega arith

bytes_of : (bs : List ℕ) (high : ℕ) → AreBytes bs
    → bytes_high_first (length bs) (high * 256 ^ length bs + worth bs) ≡ bs
unfolding worth
bytes_of [] high are = refl
bytes_of (b ∷ bs) high are =
    let below = worth_below bs (λ i. are (suc i)) in
    let split :
    high * 256 ^ suc (length bs) + (b * 256 ^ length bs + worth bs)
    ≡ (high * 256 + b) * 256 ^ length bs + worth bs =
    rw (power (length bs)) (regroup high b (256 ^ length bs) (worth bs)) in
    let first : byte_at (length bs) ((high * 256 + b) * 256 ^ length bs + worth bs) ≡ b =
    at_place (length bs) ((high * 256 + b) * 256 ^ length bs + worth bs)
    ∙ ap (λ (m : ℕ). m % 256) (div-mul-add (high * 256 + b) (256 ^ length bs) (worth bs) below)
    ∙ mod-mul-add high 256 b (are 0) in
    let others = bytes_of bs (high * 256 + b) (λ i. are (suc i)) in
    ap (bytes_high_first (suc (length bs))) split ∙ (λ i. first i ∷ others i)

by_cells : (bs : List ℕ) → length bs ≡ 16 → from_be_bytes w128 bs ≡ worth bs
unfolding worth
by_cells ([]) len = absurd (omega arith)
by_cells (a ∷ []) len = absurd (omega arith)
by_cells (a ∷ b ∷ []) len = absurd (omega arith)
by_cells (a ∷ b ∷ c ∷ []) len = absurd (omega arith)
by_cells (a ∷ b ∷ c ∷ d ∷ []) len = absurd (omega arith)
by_cells (a ∷ b ∷ c ∷ d ∷ e ∷ []) len = absurd (omega arith)
by_cells (a ∷ b ∷ c ∷ d ∷ e ∷ f ∷ []) len = absurd (omega arith)
by_cells (a ∷ b ∷ c ∷ d ∷ e ∷ f ∷ g ∷ []) len = absurd (omega arith)
by_cells (a ∷ b ∷ c ∷ d ∷ e ∷ f ∷ g ∷ h ∷ []) len = absurd (omega arith)
by_cells (a ∷ b ∷ c ∷ d ∷ e ∷ f ∷ g ∷ h ∷ i ∷ []) len = absurd (omega arith)
by_cells (a ∷ b ∷ c ∷ d ∷ e ∷ f ∷ g ∷ h ∷ i ∷ j ∷ []) len = absurd (omega arith)
by_cells (a ∷ b ∷ c ∷ d ∷ e ∷ f ∷ g ∷ h ∷ i ∷ j ∷ k ∷ []) len = absurd (omega arith)
by_cells (a ∷ b ∷ c ∷ d ∷ e ∷ f ∷ g ∷ h ∷ i ∷ j ∷ k ∷ l ∷ []) len = absurd (omega arith)
by_cells (a ∷ b ∷ c ∷ d ∷ e ∷ f ∷ g ∷ h ∷ i ∷ j ∷ k ∷ l ∷ m ∷ []) len = absurd (omega arith)
by_cells (a ∷ b ∷ c ∷ d ∷ e ∷ f ∷ g ∷ h ∷ i ∷ j ∷ k ∷ l ∷ m ∷ n ∷ []) len = absurd (omega arith)
by_cells (a ∷ b ∷ c ∷ d ∷ e ∷ f ∷ g ∷ h ∷ i ∷ j ∷ k ∷ l ∷ m ∷ n ∷ o ∷ []) len = absurd (omega arith)
by_cells (a ∷ b ∷ c ∷ d ∷ e ∷ f ∷ g ∷ h ∷ i ∷ j ∷ k ∷ l ∷ m ∷ n ∷ o ∷ p ∷ []) len = omega arith
by_cells (a ∷ b ∷ c ∷ d ∷ e ∷ f ∷ g ∷ h ∷ i ∷ j ∷ k ∷ l ∷ m ∷ n ∷ o ∷ p ∷ q ∷ bs) len =
    absurd (omega arith)

-- both are the bytes' sum, each times its power
worth_16 : (bs : List ℕ) → length bs ≡ 16 → from_be_bytes w128 bs ≡ worth bs
worth_16 bs len = by_cells bs len

back_128 : (bs : List ℕ) → length bs ≡ byte_len w128 → AreBytes bs
    → to_be_bytes w128 (from_be_bytes w128 bs) ≡ bs
back_128 bs len are =
    let alone : 0 * 256 ^ length bs + worth bs ≡ worth bs = omega arith in
    let whole : bytes_high_first (length bs) (worth bs) ≡ bs =
    ap (bytes_high_first (length bs)) (sym alone) ∙ bytes_of bs 0 are in
    ap (bytes_high_first 16) (worth_16 bs len)
    ∙ subst (λ (k : ℕ). bytes_high_first k (worth bs) ≡ bs) len whole

again_128 : (n : ℕ) → n < 2 ^ 128 → from_be_bytes w128 (to_be_bytes w128 n) ≡ n
again_128 n lt = worth_16 (to_be_bytes w128 n) refl ∙ worth_of 16 n ∙ omega arith

pub wide128 : IsWide w128 (2 ^ 128)
wide128 = record {
  len = λ n. refl;
  back = back_128;
  again = again_128;
  below = λ bytes are.
      omega (
        arith,
        are 0,
        are 1,
        are 2,
        are 3,
        are 4,
        are 5,
        are 6,
        are 7,
        are 8,
        are 9,
        are
            10,
        are 11,
        are 12,
        are 13,
        are 14,
        are 15,
      );
}
