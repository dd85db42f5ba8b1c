-- One more of a list that is gone through.
use Rattle.std.proofs.Common.{◌≡◌, ℕ, zero, suc, ◌+◌, ◌<◌, List, [], ◌∷◌, ◌++◌, append_assoc, length}
use Rattle.std.proofs.Common.{get_or, slice_set}
use Rattle.std.proofs.Common.{take, drop, map, reverse, fold, refl, sym, ap, ◌∙◌, add-one, arith}
use Rattle.std.proofs.Math.Seq.{take-append_seam, take-suc, drop-cons}
use Rattle.std.proofs.lemmas.Grind.{flat_map-append}
use Rattle.std.proofs.lemmas.List.{append-nil, map-append, reverse-append}
use Rattle.std.specs.List.{flat_map}
use Rattle.bean_accounts.proofs.LogFacts.{found_behind}
use Rattle.bean_accounts.specs.Log.{with_found}
use Rattle.bean_accounts.specs.declared.log.FaultLog.{FaultLog}
use Rattle.bean_base.specs.declared.fault.Fault.{Fault}

pub taken_more : {X : Type 0} (xs : List X) (i : ℕ) (x : X) → i < length xs → x ≡ get_or xs i x
    → take (i + 1) xs ≡ take i xs ++ x ∷ []
taken_more xs i x h e = rw add-one (take-suc xs i x h ∙ ap (λ q. take i xs ++ q ∷ []) (sym e))

pub left_at : {X : Type 0} (xs : List X) (i : ℕ) (x : X) → i < length xs → x ≡ get_or xs i x
    → drop i xs ≡ x ∷ drop (i + 1) xs
left_at xs i x h e = rw add-one (drop-cons xs i x h ∙ ap (λ q. q ∷ drop (suc i) xs) (sym e))

pub folded : {X Y : Type 0} (f : Y → X → Y) (y : Y) (xs : List X) (i : ℕ) (x : X) → i < length xs
    → x ≡ get_or xs i x → fold f (f y x) (drop (i + 1) xs) ≡ fold f y (drop i xs)
folded f y xs i x h e = sym (ap (fold f y) (left_at xs i x h e))

-- an item that is written where it stands changes nothing
pub written_same : {X : Type 0} (xs : List X) (i : ℕ) (x : X) → x ≡ get_or xs i x
    → slice_set xs i x ≡ xs
written_same [] i x is = refl
written_same (y ∷ ys) zero x is = ap (λ z. z ∷ ys) is
written_same (y ∷ ys) (suc i) x is = ap (λ l. y ∷ l) (written_same ys i x is)

-- a list that is lent as a whole, and comes back as it was
pub as_booked : {X : Type 0} (n : ℕ) (items lent new own : List X) → length lent ≡ n → new ≡ lent
    → lent ≡ own → take n (new ++ drop (length new) items) ≡ own
as_booked n items lent new own len same is =
    ap (λ m. take m (new ++ drop (length new) items)) (sym (ap length same ∙ len))
    ∙ take-append_seam new (drop (length new) items) ∙ same ∙ is

pub flat_more : {X Y : Type 0} (f : X
    → List Y) (xs : List X) (i : ℕ) (x : X) (before old new : List Y)
    → i < length xs → x ≡ get_or xs i x → old ≡ before ++ flat_map f (take i xs)
    → new ≡ old ++ f x → new ≡ before ++ flat_map f (take (i + 1) xs)
flat_more f xs i x before old new h e o n =
    n ∙ ap (λ l. l ++ f x) o ∙ append_assoc before (flat_map f (take i xs)) (f x)
    ∙ ap (λ l. before ++ l)
    (sym (ap (flat_map f) (taken_more xs i x h e)
    ∙ flat_map-append f (take i xs) (x ∷ [])
    ∙ ap (λ l. flat_map f (take i xs) ++ l) (append-nil (f x))))

-- likewise where it goes to a log
pub found_more : {X : Type 0} (f : X → List Fault) (xs : List X) (i : ℕ) (x : X)
    (before old new : FaultLog) → i < length xs → x ≡ get_or xs i x
    → old ≡ with_found (flat_map f (take i xs)) before → new ≡ with_found (f x) old
    → new ≡ with_found (flat_map f (take (i + 1) xs)) before
found_more f xs i x before old new h e o n =
    n ∙ ap (with_found (f x)) o ∙ found_behind (flat_map f (take i xs)) (f x) before
    ∙ ap (λ l. with_found l before)
    (flat_more f xs i x [] (flat_map f (take i xs)) (flat_map f (take i xs) ++ f x) h e refl refl)

pub latest_mapped : {X Y : Type 0} (f : X → Y) (xs : List X) (i : ℕ) (x : X) → i < length xs
    → x ≡ get_or xs i x
    → reverse (map f (take (i + 1) xs)) ≡ f x ∷ reverse (map f (take i xs))
latest_mapped f xs i x h e =
    ap (λ l. reverse (map f l)) (taken_more xs i x h e)
    ∙ ap reverse (map-append f (take i xs) (x ∷ []))
    ∙ reverse-append (map f (take i xs)) (f x ∷ [])

pub empty : {X : Type 0} (xs : List X) → length xs ≡ 0 → xs ≡ []
empty [] none = refl
empty (x ∷ xs) none = absurd (omega (arith, none))
