-- Running values take their inputs one after the other.
use Rattle.std.proofs.Common.{◌≡◌, ◌≢◌, ℕ, zero, suc, ◌+◌, ◌<◌, ◌≤◌, List, [], ◌∷◌, ◌++◌, length, take}
use Rattle.std.proofs.Common.{drop, get_or, set, Option, Some, None, ⊎_elim, refl, sym, ap, ◌∙◌, subst}
use Rattle.std.proofs.Common.{arith, add-one}
use Rattle.std.specs.Prelude.{option_and_then, option_map}
use Rattle.std.proofs.lemmas.Bool.{cases_lt}
use Rattle.plain_machine.specs.Gathering.{cons_if, next_input, take_each, with_value}
use Rattle.query_groups.specs.Taking.{taking}
use Rattle.query_values.specs.declared.operation.Aggregate.{Aggregate}
use Rattle.query_values.specs.declared.value.Value.{Value}

abbrev more_each : List Aggregate → List Value → List Value → Option (List Value)
more_each = take_each with_value

abbrev pub onto : {A : Type 0} → List A → Option (List A) → Option (List A)
onto xs None = None
onto xs (Some ys) = Some (xs ++ ys)

-- the first k values have their inputs, and the inputs from j on are left for the others
pub record IsAdding (aggs : List Aggregate) (from inputs totals : List Value) (k j : ℕ) :
    Type 0 where
  pub within : k ≤ length aggs
  pub more : more_each aggs from inputs
      ≡ onto (take k totals) (more_each (drop k aggs) (drop k totals) (drop j inputs))

onto_nil : {A : Type 0} (o : Option (List A)) → onto [] o ≡ o
onto_nil None = refl
onto_nil (Some xs) = refl

from_at : {A : Type 0} (xs : List A) (k : ℕ) (d : A) → k < length xs
    → drop k xs ≡ get_or xs k d ∷ drop (suc k) xs
from_at [] k d h = absurd (omega arith)
from_at (x ∷ xs) zero d h = refl
from_at (x ∷ xs) (suc k) d h = from_at xs k d (omega arith)

taken_set : {A : Type 0} (xs : List A) (k : ℕ) (y : A) → k < length xs
    → take (suc k) (set xs k y) ≡ take k xs ++ (y ∷ [])
taken_set [] k y h = absurd (omega arith)
taken_set (x ∷ xs) zero y h = refl
taken_set (x ∷ xs) (suc k) y h = ap (λ l. x ∷ l) (taken_set xs k y (omega arith))

left_set : {A : Type 0} (xs : List A) (k : ℕ) (y : A) → drop (suc k) (set xs k y) ≡ drop (suc k) xs
left_set [] k y = refl
left_set (x ∷ xs) zero y = refl
left_set (x ∷ xs) (suc k) y = left_set xs k y

none_left : {A : Type 0} (xs : List A) (k : ℕ) → length xs ≤ k → drop k xs ≡ []
none_left [] zero h = refl
none_left [] (suc k) h = refl
none_left (x ∷ xs) zero h = absurd (omega arith)
none_left (x ∷ xs) (suc k) h = none_left xs k (omega arith)

pub adding_first : (aggs : List Aggregate) (ts xs : List Value) → IsAdding aggs ts xs ts 0 0
adding_first aggs ts xs = record {
  within = omega arith;
  more = sym (onto_nil (more_each aggs ts xs));
}

then_onto : (xs : List Value) (x : Value) (o : Option (List Value))
    → onto xs (cons_if (Some x) o) ≡ onto (xs ++ (x ∷ [])) o
then_onto xs x None = refl
then_onto xs x (Some ys) = ap Some (joined xs)
  where
    joined : (zs : List Value) → zs ++ (x ∷ ys) ≡ (zs ++ (x ∷ [])) ++ ys
    joined [] = refl
    joined (z ∷ zs) = ap (λ l. z ∷ l) (joined zs)

pub adding_fits : (aggs : List Aggregate) (from xs ts : List Value) (k j : ℕ) (d : Aggregate)
    → more_each aggs from xs ≢ None → IsAdding aggs from xs ts k j → k < length aggs
    → k < length ts
adding_fits aggs from xs ts k j d some adding below =
    ⊎_elim (λ h. h) (λ h. absurd (none h)) (cases_lt k (length ts))
  where
    none : length ts ≤ k → ⊥
    none h =
        some (adding.more
        ∙ (λ i. onto (take k ts)
        (more_each (from_at aggs k d below i) (none_left ts k h i) (drop j xs))))

-- what is left to do, where an aggregate took its input or couldn't
abbrev behind : List Aggregate → List Value → ℕ → List Value → Option (Value × List Value)
    → Option (List Value)
behind aggs ts k done o =
    onto done
    (option_and_then (λ (i : Value × List Value). cons_if (Some i.0) (more_each (drop (suc k) aggs) (drop (suc k) ts) i.1)) o)

by_taking : (a : Aggregate) (t : Value) (aggs : List Aggregate) (ts inputs : List Value)
    → more_each (a ∷ aggs) (t ∷ ts) inputs
    ≡ option_and_then (λ (i : Value × List Value). cons_if (Some i.0) (more_each aggs ts i.1)) (taking a t inputs)
by_taking a t aggs ts inputs = of_input (next_input a inputs)
  where
    of_value : (u : Option Value) (rest : List Value)
        → cons_if u (more_each aggs ts rest)
        ≡ option_and_then (λ (i : Value × List Value). cons_if (Some i.0) (more_each aggs ts i.1))
        (option_map (λ u. (u, rest)) u)
    of_value None rest = refl
    of_value (Some u) rest = refl

    of_input : (i : Option (Value × List Value))
        → option_and_then (λ (i : Value × List Value). cons_if (with_value a t i.0) (more_each aggs ts i.1)) i
        ≡ option_and_then (λ (i : Value × List Value). cons_if (Some i.0) (more_each aggs ts i.1))
        (option_and_then (λ (i : Value × List Value). option_map (λ u. (u, i.1)) (with_value a t i.0)) i)
    of_input None = refl
    of_input (Some i) = of_value (with_value a t i.0) i.1

fronts : (aggs : List Aggregate) (from xs ts : List Value) (k j : ℕ) (d : Aggregate) (c : Value)
    → IsAdding aggs from xs ts k j → k < length aggs → k < length ts
    → more_each aggs from xs
    ≡ behind aggs ts k (take k ts) (taking (get_or aggs k d) (get_or ts k c) (drop j xs))
fronts aggs from xs ts k j d c adding below fits =
    adding.more
    ∙ (λ i. onto (take k ts)
    (more_each (from_at aggs k d below i) (from_at ts k c fits i) (drop j xs)))
    ∙ ap (onto (take k ts)) (by_taking (get_or aggs k d) (get_or ts k c) (drop (suc k) aggs)
    (drop (suc k) ts) (drop j xs))

pub adding_has : (aggs : List Aggregate) (from xs ts : List Value) (k j : ℕ) (d : Aggregate)
    (c : Value) → more_each aggs from xs ≢ None → IsAdding aggs from xs ts k j → k < length aggs
    → taking (get_or aggs k d) (get_or ts k c) (drop j xs) ≢ None
adding_has aggs from xs ts k j d c some adding below none =
    let fits = adding_fits aggs from xs ts k j d some adding below in
    some (fronts aggs from xs ts k j d c adding below fits
    ∙ ap (behind aggs ts k (take k ts)) none)

pub adding_on : (aggs : List Aggregate) (from xs ts : List Value) (k j m : ℕ) (d : Aggregate)
    (c y : Value) → IsAdding aggs from xs ts k j → k < length aggs → k < length ts
    → taking (get_or aggs k d) (get_or ts k c) (drop j xs) ≡ Some (y, drop m xs)
    → IsAdding aggs from xs (set ts k y) (k + 1) m
adding_on aggs from xs ts k j m d c y adding below fits made =
    subst (λ n. IsAdding aggs from xs (set ts k y) n m) (sym (add-one k)) (record {
      within = omega (arith, below);
      more = fronts aggs from xs ts k j d c adding below fits
          ∙ ap (behind aggs ts k (take k ts)) made
          ∙ then_onto (take k ts) y (more_each (drop (suc k) aggs) (drop (suc k) ts) (drop m xs))
          ∙ (λ i. onto (sym (taken_set ts k y fits) i)
          (more_each (drop (suc k) aggs) (sym (left_set ts k y) i) (drop m xs)));
    })

-- all have theirs where no input is left
all_done : (done ts : List Value) (xs : List Value) → onto done (more_each [] ts xs) ≢ None
    → onto done (more_each [] ts xs) ≡ Some done
all_done done ts [] some = ap Some (alone done)
  where
    alone : (us : List Value) → us ++ [] ≡ us
    alone [] = refl
    alone (u ∷ us) = ap (λ l. u ∷ l) (alone us)
all_done done ts (x ∷ xs) some = absurd (some refl)

pub adding_past : (aggs : List Aggregate) (from xs ts : List Value) (k j : ℕ)
    → more_each aggs from xs ≢ None → IsAdding aggs from xs ts k j → length aggs ≤ k
    → more_each aggs from xs ≡ Some (take k ts)
adding_past aggs from xs ts k j some adding h =
    let e =
    adding.more
    ∙ ap (λ l. onto (take k ts) (more_each l (drop k ts) (drop j xs))) (none_left aggs k h) in
    e ∙ all_done (take k ts) (drop k ts) (drop j xs) (λ none. some (e ∙ none))
