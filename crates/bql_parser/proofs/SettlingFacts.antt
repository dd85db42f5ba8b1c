-- What is settled of lists of targets and items.
use Rattle.std.proofs.Common.{◌≡◌, ℕ, ◌+◌, Bool, cond, not, List, [], ◌∷◌, map, length}
use Rattle.std.proofs.Common.{nat_lt, Option, Some, None, Bor, refl, sym, ap, ◌∙◌}
use Rattle.std.specs.Prelude.{option_map}
use Rattle.std.specs.List.{slice_get, position, position_or_len, prefix_len}
use Rattle.std.specs.Slice.{IsItemAt}
use Rattle.std.proofs.lemmas.List.{length-map}
use Rattle.std.proofs.lemmas.Option.{slice_get-map, slice_get_read, slice_get_past}

-- What stands at a place, by two views of it.
pub viewed_at : {A B C : Type 0} (f : A → B) (g : B → C) (xs : List A) (i : ℕ) (x : Bor A)
    → IsItemAt xs i (Some x) → Some (g (f x.now)) ≡ slice_get (map g (map f xs)) i
viewed_at f g xs i x h =
    sym (slice_get-map g (map f xs) i ∙ ap (option_map g) (slice_get-map f xs i)
    ∙ ap (λ o. option_map g (option_map f o)) (slice_get_read xs (length xs) i x.now refl h.3.0
    h.1))

pub none_at : {A B C : Type 0} (f : A → B) (g : B → C) (xs : List A) (i : ℕ)
    → IsItemAt xs i None → None ≡ slice_get (map g (map f xs)) i
none_at f g xs i h =
    sym (slice_get-map g (map f xs) i ∙ ap (option_map g) (slice_get-map f xs i)
    ∙ ap (λ o. option_map g (option_map f o)) (slice_get_past xs i h.3))

-- The first that passes a test, by a view.
prefix_map : {A B : Type 0} (f : A → B) (p : B → Bool) (xs : List A)
    → prefix_len (λ x. p (f x)) xs ≡ prefix_len p (map f xs)
prefix_map f p [] = refl
prefix_map f p (x ∷ xs) = ap (λ n. cond (p (f x)) (1 + n) 0) (prefix_map f p xs)

abbrev within : ℕ → ℕ → Option ℕ
within n len = cond (nat_lt n len) (Some n) None

pub position_map : {A B : Type 0} (f : A → B) (p : B → Bool) (xs : List A)
    → position (λ x. p (f x)) xs ≡ position p (map f xs)
position_map f p xs =
    ap (λ n. within n (length xs)) (prefix_map f (λ y. not (p y)) xs)
    ∙ ap (λ n. within (position_or_len p (map f xs)) n) (sym (length-map xs f))
