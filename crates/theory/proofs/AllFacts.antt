-- What holds of all items of lists holds of all items of what is made of these.
use Rattle.std.proofs.Common.{◌≡◌, suc, Bool, true, false, cond, List, [], ◌∷◌, ◌++◌, length, ap, refl}
use Rattle.std.proofs.Common.{◌∙◌, subst}
use Rattle.std.specs.Cmp.{IsTotalOrder}
use Rattle.std.specs.List.{AllByRecursion}
use Rattle.std.specs.declared.cmp.Ordering.{Ordering}
use Rattle.std.proofs.lemmas.List.Sorted.{ranks_by}
use Rattle.theory.specs.Arrangement.{IsArrangedByKey, by_key, put_by, arranged_by}
use Rattle.theory.proofs.ArrangedFacts.{is_arranged}
use Rattle.theory.proofs.ArrangementFacts.{one_by_key}

pub all_joined : {X : Type 0} (P : X → Type 0) (xs ys : List X) → AllByRecursion P xs
    → AllByRecursion P ys → AllByRecursion P (xs ++ ys)
all_joined P [] ys h k = k
all_joined P (x ∷ xs) ys h k = (h.0, all_joined P xs ys h.1 k)

pub all_pushed : {X : Type 0} (P : X → Type 0) (xs : List X) (x : X) → AllByRecursion P xs → P x
    → AllByRecursion P (xs ++ x ∷ [])
all_pushed P xs x h k = all_joined P xs (x ∷ []) h (k, tt)

-- an arrangement has the items that it is made of

module _ {X : Type 0} (P : X → Type 0) (before : X → X → Bool) where
  put_all_by : (b : Bool) (x y : X) (ys : List X) → P x → P y → AllByRecursion P ys
      → AllByRecursion P (put_by before x ys)
      → AllByRecursion P (cond b (y ∷ put_by before x ys) (x ∷ y ∷ ys))
  put_all_by true x y ys h k all rest = (k, rest)
  put_all_by false x y ys h k all rest = (h, (k, all))

  put_all : (x : X) (ys : List X) → P x → AllByRecursion P ys
      → AllByRecursion P (put_by before x ys)
  put_all x [] h all = (h, tt)
  put_all x (y ∷ ys) h all =
      put_all_by (before y x) x y ys h all.0 all.1 (put_all x ys h all.1)

  arranged_all : (xs : List X) → AllByRecursion P xs → AllByRecursion P (arranged_by before xs)
  arranged_all [] all = tt
  arranged_all (x ∷ xs) all = put_all x (arranged_by before xs) all.0 (arranged_all xs all.1)

-- and as many

module _ {X : Type 0} (before : X → X → Bool) where
  put_length_by : (b : Bool) (x y : X) (ys : List X)
      → length (put_by before x ys) ≡ suc (length ys)
      → length (cond b (y ∷ put_by before x ys) (x ∷ y ∷ ys)) ≡ suc (suc (length ys))
  put_length_by true x y ys e = ap suc e
  put_length_by false x y ys e = refl

  put_length : (x : X) (ys : List X) → length (put_by before x ys) ≡ suc (length ys)
  put_length x [] = refl
  put_length x (y ∷ ys) = put_length_by (before y x) x y ys (put_length x ys)

  arranged_length : (xs : List X) → length (arranged_by before xs) ≡ length xs
  arranged_length [] = refl
  arranged_length (x ∷ xs) = put_length x (arranged_by before xs) ∙ ap suc (arranged_length xs)

pub in_order_length :
    {X K : Type 0} (key : X → K) (cmp : K → K → Ordering) → IsTotalOrder cmp
    → (xs ys : List X) → IsArrangedByKey key cmp xs ys → length ys ≡ length xs
in_order_length key cmp total xs ys arranged =
    let before = by_key key cmp in
    let own = is_arranged before (ranks_by total key) xs in
    subst (λ ys. length ys ≡ length xs)
    (one_by_key key cmp total xs (arranged_by before xs) ys own arranged)
    (arranged_length before xs)

pub in_order_all :
    {X K : Type 0} (P : X → Type 0) (key : X → K) (cmp : K → K → Ordering) → IsTotalOrder cmp
    → (xs ys : List X) → IsArrangedByKey key cmp xs ys → AllByRecursion P xs → AllByRecursion P ys
in_order_all P key cmp total xs ys arranged all =
    let before = by_key key cmp in
    let own = is_arranged before (ranks_by total key) xs in
    subst (AllByRecursion P) (one_by_key key cmp total xs (arranged_by before xs) ys own arranged)
    (arranged_all P before xs all)
