-- Lists of faults that grow element by element of what they come of.
use Rattle.std.proofs.Common.{◌≡◌, ℕ, ◌+◌, ◌<◌, ◌≤◌, List, [], ◌∷◌, ◌++◌, length, get_or, take}
use Rattle.std.proofs.Common.{add-one, append_assoc, sym, ap, ◌∙◌}
use Rattle.std.proofs.Math.Seq.{take-suc}
use Rattle.std.proofs.lemmas.List.{append-nil, take_all}
use Rattle.std.specs.List.{flat_map}

flat_behind : {X A : Type 0} (f : X → List A) (xs : List X) (x : X)
    → flat_map f (xs ++ x ∷ []) ≡ flat_map f xs ++ f x
flat_behind f [] x = append-nil (f x)
flat_behind f (y ∷ xs) x =
    ap (λ l. f y ++ l) (flat_behind f xs x) ∙ sym (append_assoc (f y) (flat_map f xs) (f x))

-- what was there, what came of the first elements, and what comes of the next one
pub one_more : {X A : Type 0} (f : X → List A) (old so_far new : List A) (xs : List X) (i : ℕ) (x : X)
    → i < length xs → x ≡ get_or xs i x → so_far ≡ old ++ flat_map f (take i xs)
    → new ≡ so_far ++ f x → new ≡ old ++ flat_map f (take (i + 1) xs)
one_more f old so_far new xs i x within is before next =
    let more : take (i + 1) xs ≡ take i xs ++ x ∷ [] =
    rw add-one (take-suc xs i x within ∙ ap (λ q. take i xs ++ q ∷ []) (sym is)) in
    next ∙ ap (λ l. l ++ f x) before ∙ append_assoc old (flat_map f (take i xs)) (f x)
    ∙ ap (λ l. old ++ l) (sym (ap (flat_map f) more ∙ flat_behind f (take i xs) x))

pub all_there : {X A : Type 0} (f : X → List A) (old so_far : List A) (xs : List X) (i : ℕ)
    → length xs ≤ i → so_far ≡ old ++ flat_map f (take i xs) → so_far ≡ old ++ flat_map f xs
all_there f old so_far xs i behind is = is ∙ ap (λ ys. old ++ flat_map f ys) (take_all i xs behind)
