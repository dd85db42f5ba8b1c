-- Bytes are the same where the numbers that they spell are.
use Rattle.std.proofs.Common.{◌≡◌, ℕ, ◌<◌, Bool, true, false, List, length, get_or, nat_eq, sym, ap}
use Rattle.std.proofs.Common.{◌∙◌, arith, refl, zero, suc, [], ◌∷◌, take}
use Rattle.std.proofs.lemmas.Bool.Decides.{nat_tests}
use Rattle.std.proofs.lemmas.Nat.{le_bytes_4, le_bytes_8}
use Rattle.std.proofs.lemmas.Slice.Eq.{bytes_eq-Decides}
use Rattle.std.specs.Int.{from_le_bytes, to_le_bytes, w32, w64}
use Rattle.std.specs.Cmp.Lexicographic.{pointwise}

same_tests : (s t : Bool) → (s ≡ true → t ≡ true) → (t ≡ true → s ≡ true) → s ≡ t
same_tests true true f g = refl
same_tests true false f g = sym (f refl)
same_tests false true f g = g refl
same_tests false false f g = refl

number_is : (m n : ℕ) → nat_eq m n ≡ true → m ≡ n
number_is m n h = grind (arith, nat_tests)

is_number : (m n : ℕ) → m ≡ n → nat_eq m n ≡ true
is_number m n h = grind (arith, nat_tests)

-- what holds of all bytes holds of those at the front
pub small_front : (n : ℕ) (xs : List ℕ) → ((i : ℕ) → get_or xs i 0 < 256) → (i : ℕ)
    → get_or (take n xs) i 0 < 256
small_front zero xs small i = omega arith
small_front (suc n) [] small i = omega arith
small_front (suc n) (x ∷ xs) small zero = small 0
small_front (suc n) (x ∷ xs) small (suc i) = small_front n xs (λ j. small (suc j)) i

pub by_number_8 : (xs ys : List ℕ) (m n : ℕ) → length xs ≡ 8 → length ys ≡ 8
    → ((i : ℕ) → get_or xs i 0 < 256) → ((i : ℕ) → get_or ys i 0 < 256) → m ≡ from_le_bytes w64 xs
    → n ≡ from_le_bytes w64 ys → nat_eq m n ≡ pointwise nat_eq xs ys
by_number_8 xs ys m n x y small_x small_y of_x of_y =
    same_tests (nat_eq m n) (pointwise nat_eq xs ys)
    (λ h. (bytes_eq-Decides xs ys).1 (sym (le_bytes_8 xs m x small_x of_x)
    ∙ ap (to_le_bytes w64) (number_is m n h) ∙ le_bytes_8 ys n y small_y of_y))
    (λ h. is_number m n (of_x ∙ ap (from_le_bytes w64) ((bytes_eq-Decides xs ys).0 h) ∙ sym of_y))

pub by_number_4 : (xs ys : List ℕ) (m n : ℕ) → length xs ≡ 4 → length ys ≡ 4
    → ((i : ℕ) → get_or xs i 0 < 256) → ((i : ℕ) → get_or ys i 0 < 256) → m ≡ from_le_bytes w32 xs
    → n ≡ from_le_bytes w32 ys → nat_eq m n ≡ pointwise nat_eq xs ys
by_number_4 xs ys m n x y small_x small_y of_x of_y =
    same_tests (nat_eq m n) (pointwise nat_eq xs ys)
    (λ h. (bytes_eq-Decides xs ys).1 (sym (le_bytes_4 xs m x small_x of_x)
    ∙ ap (to_le_bytes w32) (number_is m n h) ∙ le_bytes_4 ys n y small_y of_y))
    (λ h. is_number m n (of_x ∙ ap (from_le_bytes w32) ((bytes_eq-Decides xs ys).0 h) ∙ sym of_y))
