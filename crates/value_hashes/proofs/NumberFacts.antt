-- Numbers that are the same have one count in the fewest decimals.
use Rattle.std.proofs.Common.{◌≡◌, ℕ, zero, suc, ◌+◌, ◌-◌, ◌*◌, ◌^◌, ◌/◌, ◌%◌}
use Rattle.std.proofs.Common.{max, ℤ, pos, ◌*ℤ◌, true, cond, ◌==◌, refl, sym, ap, ap₂, ◌∙◌, arith}
use Rattle.std.proofs.lemmas.Bool.Decides.{Decides-int_eq}
use Rattle.std.proofs.lemmas.Int.{unsigned_abs-mul}
use Rattle.std.proofs.Math.Nat.{pow-suc, mul_assoc, le-max_left, le-max_right}
use Rattle.std.specs.Int.RustNames.{unsigned_abs}
use Rattle.bean_base.specs.Decimal.{scaled}
use Rattle.query_values.specs.Equality.{same_number}
use Rattle.std.specs.Hash as fed
use Rattle.value_hashes.specs.Fed.{fewest, number_fed}

ten_more : (p x : ℕ) → fewest (suc p) (x * 10) ≡ fewest p x
ten_more p x =
    let none : (x * 10) % 10 ≡ 0 = omega arith in
    let tenth : x * 10 / 10 ≡ x = omega arith in
    ap (λ r. cond (r == 0) (fewest p (x * 10 / 10)) (x * 10)) none ∙ ap (fewest p) tenth

ten_times : (n t u : ℕ) → u ≡ t * 10 → n * u ≡ n * t * 10
ten_times n t u e = ap (λ u. n * u) e ∙ sym (mul_assoc n t 10)

-- decimals that are zeros change nothing
more_decimals : (k p q n : ℕ) → q ≡ k + p → fewest q (n * 10 ^ k) ≡ fewest p n
more_decimals zero p q n e =
    let same : q ≡ p = omega (arith, e) in
    let one : n * 1 ≡ n = omega arith in ap₂ fewest same one
more_decimals (suc k) p zero n e = absurd (omega (arith, e))
more_decimals (suc k) p (suc q) n e =
    ap (fewest (suc q)) (ten_times n (10 ^ k) (10 ^ suc k) (pow-suc 10 k))
    ∙ ten_more q (n * 10 ^ k) ∙ more_decimals k p q n (omega (arith, e))

magnitude : (m : ℤ) (t : ℕ) → unsigned_abs (m *ℤ pos t) ≡ unsigned_abs m * t
magnitude m t = unsigned_abs-mul m (pos t)

up_to : (p q : ℕ) → max p q - p + p ≡ max p q
up_to p q = let few = le-max_left p q in omega arith

up_to_other : (p q : ℕ) → max p q - q + q ≡ max p q
up_to_other p q = let few = le-max_right p q in omega arith

same_counts : (p q most : ℕ) (m n : ℤ) → most - p + p ≡ most → most - q + q ≡ most
    → m *ℤ pos (10 ^ (most - p)) ≡ n *ℤ pos (10 ^ (most - q))
    → fewest p (unsigned_abs m) ≡ fewest q (unsigned_abs n)
same_counts p q most m n ends other is =
    sym (more_decimals (most - p) p most (unsigned_abs m) (sym ends))
    ∙ ap (fewest most)
    (sym (magnitude m (10 ^ (most - p))) ∙ ap unsigned_abs is ∙ magnitude n (10 ^ (most - q)))
    ∙ more_decimals (most - q) q most (unsigned_abs n) (sym other)

pub least_alike : (p : ℕ) (m : ℤ) (q : ℕ) (n : ℤ) → same_number p m q n ≡ true
    → fewest p (unsigned_abs m) ≡ fewest q (unsigned_abs n)
least_alike p m q n h =
    same_counts p q (max p q) m n (up_to p q) (up_to_other p q)
    ((Decides-int_eq (scaled m p (max p q)) (scaled n q (max p q))).0 h)

pub numbers_alike : (p : ℕ) (m : ℤ) (q : ℕ) (n : ℤ) → same_number p m q n ≡ true
    → number_fed p m ≡ number_fed q n
numbers_alike p m q n h = ap fed.u128 (least_alike p m q n h)

-- nothing has no digits, whatever its decimals
pub nothing_left : (p : ℕ) → fewest p 0 ≡ 0
nothing_left zero = refl
nothing_left (suc p) = nothing_left p
