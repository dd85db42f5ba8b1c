-- What holds of each item of a list holds of those of its parts, and the parts have as many items.
use Rattle.std.proofs.Common.{◌≡◌, ℕ, ◌+◌, ◌≤◌, Bool, true, false, cond, List, [], ◌∷◌, length}
use Rattle.std.proofs.Common.{arith}
use Rattle.std.specs.List.{AllByRecursion}
use Rattle.theory.specs.Cut.{put_before, cut_before}

module _ {A : Type 0} where
  put_all_by : (P : A → Type 0) (b : Bool) (x y : A) (ys : List A) (parts : List (List A)) → P x
      → AllByRecursion (AllByRecursion P) ((y ∷ ys) ∷ parts)
      → AllByRecursion (AllByRecursion P)
      (cond b ((x ∷ []) ∷ ((y ∷ ys) ∷ parts)) ((x ∷ (y ∷ ys)) ∷ parts))
  put_all_by P true x y ys parts h all = ((h, tt), all)
  put_all_by P false x y ys parts h all = ((h, all.0), all.1)

  put_all : (P : A → Type 0) (begins : A → Bool) (x : A) (parts : List (List A)) → P x
      → AllByRecursion (AllByRecursion P) parts
      → AllByRecursion (AllByRecursion P) (put_before begins x parts)
  put_all P begins x [] h all = ((h, tt), tt)
  put_all P begins x ([] ∷ parts) h all = ((h, tt), all.1)
  put_all P begins x ((y ∷ ys) ∷ parts) h all = put_all_by P (begins y) x y ys parts h all

  pub cut_all : (P : A → Type 0) (begins : A → Bool) (xs : List A) → AllByRecursion P xs
      → AllByRecursion (AllByRecursion P) (cut_before begins xs)
  cut_all P begins [] all = tt
  cut_all P begins (x ∷ xs) all =
      put_all P begins x (cut_before begins xs) all.0 (cut_all P begins xs all.1)

  -- no part is empty

  abbrev pub AreSome : List (List A) → Type 0
  AreSome parts = AllByRecursion (λ part. 1 ≤ length part) parts

  put_some_by : (b : Bool) (x y : A) (ys : List A) (parts : List (List A))
      → AreSome ((y ∷ ys) ∷ parts)
      → AreSome (cond b ((x ∷ []) ∷ ((y ∷ ys) ∷ parts)) ((x ∷ (y ∷ ys)) ∷ parts))
  put_some_by true x y ys parts all = (omega arith, all)
  put_some_by false x y ys parts all = (omega arith, all.1)

  put_some : (begins : A → Bool) (x : A) (parts : List (List A)) → AreSome parts
      → AreSome (put_before begins x parts)
  put_some begins x [] all = (omega arith, tt)
  put_some begins x ([] ∷ parts) all = (omega arith, all.1)
  put_some begins x ((y ∷ ys) ∷ parts) all = put_some_by (begins y) x y ys parts all

  pub cut_some : (begins : A → Bool) (xs : List A) → AreSome (cut_before begins xs)
  cut_some begins [] = tt
  cut_some begins (x ∷ xs) = put_some begins x (cut_before begins xs) (cut_some begins xs)

  -- how many items some lists have together
  abbrev pub count : List (List A) → ℕ
  count [] = 0
  count (part ∷ parts) = length part + count parts

  put_count_by : (b : Bool) (x y : A) (ys : List A) (parts : List (List A))
      → count (cond b ((x ∷ []) ∷ ((y ∷ ys) ∷ parts)) ((x ∷ (y ∷ ys)) ∷ parts))
      ≡ 1 + count ((y ∷ ys) ∷ parts)
  put_count_by true x y ys parts = omega arith
  put_count_by false x y ys parts = omega arith

  put_count : (begins : A → Bool) (x : A) (parts : List (List A))
      → count (put_before begins x parts) ≡ 1 + count parts
  put_count begins x [] = omega arith
  put_count begins x ([] ∷ parts) = omega arith
  put_count begins x ((y ∷ ys) ∷ parts) = put_count_by (begins y) x y ys parts

  pub cut_count : (begins : A → Bool) (xs : List A) → count (cut_before begins xs) ≡ length xs
  cut_count begins [] = omega arith
  cut_count begins (x ∷ xs) =
      let put = put_count begins x (cut_before begins xs) in
      let rest = cut_count begins xs in
      omega arith
