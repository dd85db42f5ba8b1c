-- What holds of all members of lists, and which lists begin with another.
use Rattle.std.proofs.Common.{◌≡◌, ℕ, zero, suc, Bool, true, false, cond, List, [], ◌∷◌, ◌++◌}
use Rattle.std.proofs.Common.{length, Some, refl, sym, ap, ◌∙◌, ◌≤◌, arith, length-append}
use Rattle.std.proofs.lemmas.List.{append-nil, append_assoc}
use Rattle.std.specs.Prelude.{slice_get}
use Rattle.std.specs.List.{AllByRecursion}
use Rattle.theory.specs.Form.{steps}
use Rattle.bql_plan.specs.Plan.{added}
use Rattle.bql_tree.specs.Tree.{Tree}
use Rattle.bql_types.specs.Sought.{is_key}

pub both_are : {A : Type 0} (P : A → Type 0) (xs ys : List A) → AllByRecursion P xs
    → AllByRecursion P ys → AllByRecursion P (xs ++ ys)
both_are P [] ys h k = k
both_are P (x ∷ xs) ys h k = (h.0, both_are P xs ys h.1 k)

pub each_is : {A : Type 0} (P Q : A → Type 0) → ((x : A) → P x → Q x) → (xs : List A)
    → AllByRecursion P xs → AllByRecursion Q xs
each_is P Q f [] h = tt
each_is P Q f (x ∷ xs) h = (f x h.0, each_is P Q f xs h.1)

-- ---- expressions that are added

is_added : (is : Bool) (P : Tree ℕ → Type 0) (ts : List (Tree ℕ)) (t : Tree ℕ)
    → AllByRecursion P ts → P t → AllByRecursion P (cond is ts (ts ++ t ∷ []))
is_added true P ts t h e = h
is_added false P ts t h e = both_are P ts (t ∷ []) h (e, tt)

pub are_added : (P : Tree ℕ → Type 0) (us ts : List (Tree ℕ)) → AllByRecursion P ts
    → AllByRecursion P us → AllByRecursion P (steps added ts us)
are_added P [] ts h k = h
are_added P (u ∷ us) ts h k =
    are_added P us (added ts u) (is_added (is_key ts u) P ts u h k.0) k.1

-- ---- what stands in front

-- the first stands in front of the second
pub record IsFront {A : Type 0} (xs ys : List A) : Type 0 where
  pub more : List A
  pub are : ys ≡ xs ++ more

in_front : (is : Bool) (ts : List (Tree ℕ)) (u : Tree ℕ) → IsFront ts (cond is ts (ts ++ u ∷ []))
in_front true ts u = record { more = []; are = sym (append-nil ts) }
in_front false ts u = record { more = u ∷ []; are = refl }

pub stay_in_front : (us ts : List (Tree ℕ)) → IsFront ts (steps added ts us)
stay_in_front [] ts = record { more = []; are = sym (append-nil ts) }
stay_in_front (u ∷ us) ts =
    let h = in_front (is_key ts u) ts u in
    let k = stay_in_front us (added ts u) in
    record {
      more = h.more ++ k.more;
      are = k.are ∙ ap (λ vs. vs ++ k.more) h.are ∙ append_assoc ts h.more k.more;
    }

pub front_length : {A : Type 0} (xs ys : List A) → IsFront xs ys → length xs ≤ length ys
front_length xs ys h = let e = ap length h.are ∙ length-append xs h.more in omega (arith, e)

pub front_at : {A : Type 0} (xs ys : List A) (i : ℕ) (x : A) → IsFront xs ys
    → slice_get xs i ≡ Some x → slice_get ys i ≡ Some x
front_at {A} xs ys i x h e = ap (λ zs. slice_get zs i) h.are ∙ at xs h.more i x e
  where
    at : (xs zs : List A) (i : ℕ) (x : A) → slice_get xs i ≡ Some x
        → slice_get (xs ++ zs) i ≡ Some x
    at [] zs i x e = absurd cc
    at (v ∷ xs) zs zero x e = e
    at (v ∷ xs) zs (suc i) x e = at xs zs i x e
