-- What is the same is hashed alike.
use Rattle.std.proofs.Common.{◌≡◌, ◌^◌, ◌%◌, Bool, true, false, List, [], ◌∷◌, ◌++◌, refl, sym, ap}
use Rattle.std.proofs.Common.{ap₂, rules, ℕ}
use Rattle.std.proofs.lemmas.Bool.Decides.{Decides-int_eq}
use Rattle.std.proofs.lemmas.Bool.{and_parts}
use Rattle.std.specs.Bool.{Decides}
use Rattle.std.specs.Cmp.Lexicographic.{pointwise}
use Rattle.std.specs.Ordering.{int_eq}
use Rattle.bean_base.specs.Day.{number}
use Rattle.bean_lots.proofs.LotFacts.{same_key_Decides}
use Rattle.bean_lots.specs.Lot.{same_key, same_text}
use Rattle.query_rows.specs.Same.{same_values}
use Rattle.query_values.specs.Equality.{same, same_number, same_truth}
use Rattle.query_values.specs.declared.value.Value.{Value}
use Rattle.query_values.specs.declared.value.Value.TheVariants.{Null, Truth, Number, Text, Day, Set}
use Rattle.query_values.specs.declared.value.Value.TheVariants.{Amount, Position, Inventory}
use Rattle.std.specs.Hash as fed
use Rattle.std.specs.List.{flat_map}
use Rattle.value_hashes.proofs.BagFacts.{bags_alike}
use Rattle.value_hashes.proofs.NumberFacts.{numbers_alike}
use Rattle.value_hashes.specs.Fed.{value_fed, values_fed}

one_text : (s t : List ℕ) → same_text s t ≡ true → s ≡ t
one_text s t h = (texts_decided s t).0 h
  where
    texts_decided : (s t : List ℕ) → Decides (same_text s t) (s ≡ t)
    texts_decided s t = search rules

one_set : (ss ts : List (List ℕ)) → pointwise same_text ss ts ≡ true → ss ≡ ts
one_set [] [] h = refl
one_set [] (t ∷ ts) h = cc
one_set (s ∷ ss) [] h = cc
one_set (s ∷ ss) (t ∷ ts) h =
    let parts = and_parts (same_text s t) (pointwise same_text ss ts) h in
    ap₂ ◌∷◌ (one_text s t parts.0) (one_set ss ts parts.1)

truths_alike : (a b : Bool) → same_truth a b ≡ true → a ≡ b
truths_alike true true h = refl
truths_alike true false h = sym h
truths_alike false true h = h
truths_alike false false h = refl

alike : (x y : Value) → same x y ≡ true → value_fed x ≡ value_fed y
alike Null Null h = refl
alike (Truth a) (Truth b) h = ap fed.bool (truths_alike a b h)
alike (Number p m) (Number q n) h = numbers_alike p m q n h
alike (Text s) (Text t) h = ap fed.str (one_text s t h)
alike (Day d) (Day e) h = ap fed.i32 ((Decides-int_eq (number d) (number e)).0 h)
alike (Set ss) (Set ts) h = ap (flat_map fed.str) (one_set ss ts h)
alike (Amount p c m) (Amount q d n) h =
    let parts = and_parts (same_number p m q n) (same_text c d) h in
    ap₂ ◌++◌ (numbers_alike p m q n parts.0) (ap fed.str (one_text c d parts.1))
alike (Position j m) (Position k n) h =
    let parts = and_parts (same_key j k) (int_eq m n) h in
    ap₂ (λ k n. value_fed (Position k n)) ((same_key_Decides j k).0 parts.0)
    ((Decides-int_eq m n).0 parts.1)
alike (Inventory a) (Inventory b) h = ap (λ n. fed.u64 (n % 2 ^ 64)) (bags_alike a b h)
alike x y h = cc

pub values_alike : (xs ys : List Value) → same_values xs ys ≡ true → values_fed xs ≡ values_fed ys
values_alike [] [] h = refl
values_alike [] (y ∷ ys) h = cc
values_alike (x ∷ xs) [] h = cc
values_alike (x ∷ xs) (y ∷ ys) h =
    let parts = and_parts (same x y) (same_values xs ys) h in
    ap₂ ◌++◌ (alike x y parts.0) (values_alike xs ys parts.1)
