-- The longest front of a list that is of a form.
use Rattle.std.specs.Prelude.{◌≡◌, ℕ, ◌<◌, ◌≤◌, Bool, true, false, List, length, take}

-- the first n items are of the form, and no longer front is
pub record IsLongestFront {A : Type 0} (form : List A → Bool) (xs : List A) (n : ℕ) : Type 0 where
  pub inside : n ≤ length xs
  pub of_form : form (take n xs) ≡ true
  pub longest : (m : ℕ) → n < m → m ≤ length xs → form (take m xs) ≡ false

-- no front is of the form
abbrev pub HasNoFront : {A : Type 0} → (List A → Bool) → List A → Type 0
HasNoFront form xs = (m : ℕ) → m ≤ length xs → form (take m xs) ≡ false
