-- What holds of each element of a list holds of each of a list made of it.
use Rattle.std.proofs.Common.{ℕ, zero, suc, Bool, true, false, cond, List, [], ◌∷◌, ◌++◌, map}
use Rattle.std.proofs.Common.{filter, fold, reverse, slice_get, IfSome, sym, subst}
use Rattle.std.proofs.lemmas.List.{reverse-append}
use Rattle.std.specs.List.{AllByRecursion, flat_map}
use Rattle.theory.proofs.AllFacts.{all_joined, all_pushed}

pub all_mapped :
    {X Y : Type 0} (P : X → Type 0) (Q : Y → Type 0) (f : X → Y) → ((x : X) → P x → Q (f x))
    → (xs : List X) → AllByRecursion P xs → AllByRecursion Q (map f xs)
all_mapped P Q f go [] all = tt
all_mapped P Q f go (x ∷ xs) all = (go x all.0, all_mapped P Q f go xs all.1)

-- and back
pub all_unmapped :
    {X Y : Type 0} (P : X → Type 0) (Q : Y → Type 0) (f : X → Y) → ((x : X) → Q (f x) → P x)
    → (xs : List X) → AllByRecursion Q (map f xs) → AllByRecursion P xs
all_unmapped P Q f go [] all = tt
all_unmapped P Q f go (x ∷ xs) all = (go x all.0, all_unmapped P Q f go xs all.1)

-- of two that hold of each comes a third
pub all_joint :
    {X : Type 0} (P Q R : X → Type 0) → ((x : X) → P x → Q x → R x) → (xs : List X)
    → AllByRecursion P xs → AllByRecursion Q xs → AllByRecursion R xs
all_joint P Q R go [] h k = tt
all_joint P Q R go (x ∷ xs) h k = (go x h.0 k.0, all_joint P Q R go xs h.1 k.1)

pub all_flat :
    {X Y : Type 0} (P : X → Type 0) (Q : Y → Type 0) (f : X → List Y)
    → ((x : X) → P x → AllByRecursion Q (f x)) → (xs : List X) → AllByRecursion P xs
    → AllByRecursion Q (flat_map f xs)
all_flat P Q f go [] all = tt
all_flat P Q f go (x ∷ xs) all =
    all_joined Q (f x) (flat_map f xs) (go x all.0) (all_flat P Q f go xs all.1)

pub all_filtered : {X : Type 0} (P : X → Type 0) (test : X → Bool) (xs : List X)
    → AllByRecursion P xs → AllByRecursion P (filter test xs)
all_filtered P test [] all = tt
all_filtered P test (x ∷ xs) all = by (test x) (all_filtered P test xs all.1)
  where
    by : (b : Bool) → AllByRecursion P (filter test xs)
        → AllByRecursion P (cond b (x ∷ filter test xs) (filter test xs))
    by true rest = (all.0, rest)
    by false rest = rest

pub all_reversed : {X : Type 0} (P : X → Type 0) (xs : List X) → AllByRecursion P xs
    → AllByRecursion P (reverse xs)
all_reversed P [] all = tt
all_reversed P (x ∷ xs) all =
    subst (AllByRecursion P) (sym (reverse-append (x ∷ []) xs))
    (all_pushed P (reverse xs) x (all_reversed P xs all.1) all.0)

pub all_folded :
    {X Y : Type 0} (P : X → Type 0) (Q : Y → Type 0) (f : Y → X → Y)
    → ((y : Y) (x : X) → Q y → P x → Q (f y x)) → (xs : List X) (y : Y) → Q y
    → AllByRecursion P xs → Q (fold f y xs)
all_folded P Q f go [] y h all = h
all_folded P Q f go (x ∷ xs) y h all = all_folded P Q f go xs (f y x) (go y x h all.0) all.1

-- the one at a place
pub all_at : {X : Type 0} (P : X → Type 0) (xs : List X) (i : ℕ) → AllByRecursion P xs
    → IfSome (slice_get xs i) P
all_at P [] i all = tt
all_at P (x ∷ xs) zero all = all.0
all_at P (x ∷ xs) (suc i) all = all_at P xs i all.1

-- those in front of others, and those behind
pub all_front : {X : Type 0} (P : X → Type 0) (xs ys : List X) → AllByRecursion P (xs ++ ys)
    → AllByRecursion P xs
all_front P [] ys all = tt
all_front P (x ∷ xs) ys all = (all.0, all_front P xs ys all.1)

pub all_behind : {X : Type 0} (P : X → Type 0) (xs ys : List X) → AllByRecursion P (xs ++ ys)
    → AllByRecursion P ys
all_behind P [] ys all = all
all_behind P (x ∷ xs) ys all = all_behind P xs ys all.1
