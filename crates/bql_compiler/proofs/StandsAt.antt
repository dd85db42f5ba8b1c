-- What stands in a list from a place on.
use Rattle.std.proofs.Common.{◌≡◌, ℕ, ◌+◌, ◌<◌, List, [], ◌∷◌, ◌++◌, length, Some}
use Rattle.std.proofs.Common.{ap, ◌∙◌, subst, arith, append_assoc, length-append}
use Rattle.std.specs.Prelude.{slice_get}
use Rattle.std.proofs.Math.Seq.{get_or-append_seam}
use Rattle.std.proofs.lemmas.Option.{slice_get-get_or}

module _ {A : Type 0} where
  abbrev pub StandsAt : List A → ℕ → List A → Type 0
  StandsAt all p [] = Unit {0}
  StandsAt all p (x ∷ xs) = (slice_get all p ≡ Some x) × StandsAt all (p + 1) xs

  pub front : (all : List A) (p : ℕ) (a b : List A) → StandsAt all p (a ++ b) → StandsAt all p a
  front all p [] b h = tt
  front all p (x ∷ a) b h = (h.0, front all (p + 1) a b h.1)

  pub back : (all : List A) (p : ℕ) (a b : List A) → StandsAt all p (a ++ b)
      → StandsAt all (p + length a) b
  back all p [] b h = let e : p ≡ p + 0 = omega arith in subst (λ n. StandsAt all n b) e h
  back all p (x ∷ a) b h =
      let e : p + 1 + length a ≡ p + length (x ∷ a) = omega arith in
      subst (λ n. StandsAt all n b) e (back all (p + 1) a b h.1)

  behind : (xs before : List A) → StandsAt (before ++ xs) (length before) xs
  behind [] before = tt
  behind (x ∷ xs) before =
      let within : length before < length (before ++ x ∷ xs) =
      omega (arith, length-append before (x ∷ xs)) in
      let here =
      slice_get-get_or (before ++ x ∷ xs) (length before) x within
      ∙ ap Some (get_or-append_seam before x xs x) in
      let n : length (before ++ x ∷ []) ≡ length before + 1 =
      omega (arith, length-append before (x ∷ [])) in
      let rest =
      subst (λ l. StandsAt l (length (before ++ x ∷ [])) xs) (append_assoc before (x ∷ []) xs)
      (behind xs (before ++ x ∷ [])) in
      (here, subst (λ m. StandsAt (before ++ x ∷ xs) m xs) n rest)

  -- a list stands in itself
  pub itself : (xs : List A) → StandsAt xs 0 xs
  itself xs = behind xs []

  -- a place under another name
  pub moved : (all : List A) (p q : ℕ) (a : List A) → p ≡ q → StandsAt all p a → StandsAt all q a
  moved all p q a e h = subst (λ n. StandsAt all n a) e h
