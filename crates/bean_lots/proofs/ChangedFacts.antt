-- Entries of which the values change one after the other.
use Rattle.std.proofs.Common.{◌≡◌, ℕ, zero, suc, Bool, true, false, cond, List, [], ◌∷◌, length}
use Rattle.std.proofs.Common.{slice_get, Some, refl, sym, ap}
use Rattle.std.specs.Map.{values_of, lookup}
use Rattle.std.specs.Option.{option_map}
use Rattle.indexmap.specs.IndexMap.{set_value_at}
use Rattle.bean_lots.proofs.SlotFacts.{is_none, same_some}

module _ {K V : Type 0} (f : V → V) where
  -- the first n are changed
  abbrev pub changed_front : ℕ → List (K × V) → List (K × V)
  changed_front zero es = es
  changed_front (suc n) [] = []
  changed_front (suc n) (e ∷ es) = (e.0, f e.1) ∷ changed_front n es

  abbrev pub changed : List (K × V) → List (K × V)
  changed [] = []
  changed (e ∷ es) = (e.0, f e.1) ∷ changed es

  pub next : (n : ℕ) (es : List (K × V))
      → slice_get (values_of (changed_front n es)) n ≡ slice_get (values_of es) n
  next zero es = refl
  next (suc n) [] = refl
  next (suc n) (e ∷ es) = next n es

  pub one_more : (n : ℕ) (es : List (K × V)) (m : V) → slice_get (values_of es) n ≡ Some m
      → set_value_at (changed_front n es) n (f m) ≡ changed_front (suc n) es
  one_more n [] m h = absurd (is_none m (sym h))
  one_more zero (e ∷ es) m h = ap (λ v. (e.0, f v) ∷ es) (sym (same_some e.1 m h))
  one_more (suc n) (e ∷ es) m h = ap (λ l. (e.0, f e.1) ∷ l) (one_more n es m h)

  pub same_length : (n : ℕ) (es : List (K × V)) → length (changed_front n es) ≡ length es
  same_length zero es = refl
  same_length (suc n) [] = refl
  same_length (suc n) (e ∷ es) = ap suc (same_length n es)

  pub all : (es : List (K × V)) → changed_front (length es) es ≡ changed es
  all [] = refl
  all (e ∷ es) = ap (λ l. (e.0, f e.1) ∷ l) (all es)

  pub found : (t : K → Bool) (es : List (K × V))
      → lookup t (changed es) ≡ option_map f (lookup t es)
  found t [] = refl
  found t (e ∷ es) = by (t e.0) (found t es)
    where
      by : (b : Bool) → lookup t (changed es) ≡ option_map f (lookup t es)
          → cond b (Some (f e.1)) (lookup t (changed es))
          ≡ option_map f (cond b (Some e.1) (lookup t es))
      by true rest = refl
      by false rest = rest
