-- Lists cut into parts.
use Rattle.std.specs.Prelude.{Bool, List, [], ◌∷◌, cond}

-- x before the parts that follow it: in the first of them, or in a part of its own where the first
-- begins with what begins a part
abbrev pub put_before : {A : Type 0} → (A → Bool) → A → List (List A) → List (List A)
put_before begins x [] = (x ∷ []) ∷ []
put_before begins x ([] ∷ parts) = (x ∷ []) ∷ parts
put_before begins x ((y ∷ ys) ∷ parts) =
    cond (begins y) ((x ∷ []) ∷ ((y ∷ ys) ∷ parts)) ((x ∷ (y ∷ ys)) ∷ parts)

-- a list cut before each item that begins a part
abbrev pub cut_before : {A : Type 0} → (A → Bool) → List A → List (List A)
cut_before begins [] = []
cut_before begins (x ∷ xs) = put_before begins x (cut_before begins xs)
