-- What it is to take an input.
use Rattle.std.proofs.Common.{◌≡◌, ◌≢◌, ℕ, zero, suc, ◌+◌, ◌<◌, ◌≤◌, Bool, true, false, cond, ◌&&◌}
use Rattle.std.proofs.Common.{List, [], ◌∷◌, length, drop, get_or, Option, Some, None, refl, sym, ap}
use Rattle.std.proofs.Common.{◌∙◌, arith, add-one, IsTrue, ⊎_elim}
use Rattle.std.specs.Prelude.{option_and_then, option_map}
use Rattle.std.proofs.lemmas.Bool.{cases_lt}
use Rattle.plain_machine.specs.Gathering.{front_of, next_input, with_value}
use Rattle.query_groups.specs.Taking.{counts_rows, taking}
use Rattle.query_values.specs.Aggregate.{may_take, with_more}
use Rattle.query_values.specs.Held.{checked, is_held}
use Rattle.query_values.specs.declared.operation.Aggregate.{Aggregate}
use Rattle.query_values.specs.declared.operation.Aggregate.TheVariants.{CountRows, Count, Sum}
use Rattle.query_values.specs.declared.operation.Aggregate.TheVariants.{SumInventory, First, Last}
use Rattle.query_values.specs.declared.operation.Aggregate.TheVariants.{Min, Max}
use Rattle.query_values.specs.declared.value.Value.{Value}
use Rattle.query_values.specs.declared.value.Value.TheVariants.{Null}

-- a checked value is there where it may be asked for and can be held
is_checked : (may : Bool) (x : Value) → checked may x ≢ None → (may && is_held x) ≡ true
is_checked may x some = by (may && is_held x) refl
  where
    by : (b : Bool) → (may && is_held x) ≡ b → (may && is_held x) ≡ true
    by true e = e
    by false e = absurd (some (ap (λ b. cond b (Some x) None) e))

held_of : (may held : Bool) → (may && held) ≡ true → held ≡ true
held_of true held e = e
held_of false held e = cc

pub given_is_held : (a : Aggregate) (t x : Value) → with_value a t x ≢ None
    → IsTrue (is_held (with_more a t x))
given_is_held a t x some =
    held_of (may_take a t x) (is_held (with_more a t x))
    (is_checked (may_take a t x) (with_more a t x) some)

pub given_is : (a : Aggregate) (t x u : Value) → with_value a t x ≢ None → u ≡ with_more a t x
    → with_value a t x ≡ Some u
given_is a t x u some e =
    ap (λ b. cond b (Some (with_more a t x)) None)
    (is_checked (may_take a t x) (with_more a t x) some)
    ∙ ap Some (sym e)

-- ---- rows that are counted

no_input : (a : Aggregate) (xs : List Value) → counts_rows a ≡ true
    → next_input a xs ≡ Some (Null, xs)
no_input CountRows xs e = refl
no_input Count xs e = cc
no_input (Sum p) xs e = cc
no_input (SumInventory p) xs e = cc
no_input First xs e = cc
no_input Last xs e = cc
no_input Min xs e = cc
no_input Max xs e = cc

abbrev of_input : Aggregate → Value → Option (Value × List Value) → Option (Value × List Value)
of_input a t input = option_and_then (λ i. option_map (λ u. (u, i.1)) (with_value a t i.0)) input

pub counted : (a : Aggregate) (t : Value) (xs : List Value) → taking a t xs ≢ None
    → counts_rows a ≡ true → with_value a t Null ≢ None
counted a t xs some rows none =
    some (ap (of_input a t) (no_input a xs rows) ∙ ap (option_map (λ u. (u, xs))) none)

pub counted_is : (a : Aggregate) (t u : Value) (xs : List Value) → counts_rows a ≡ true
    → with_value a t Null ≡ Some u → taking a t xs ≡ Some (u, xs)
counted_is a t u xs rows made =
    ap (of_input a t) (no_input a xs rows) ∙ ap (option_map (λ u. (u, xs))) made

-- ---- inputs

its_front : (a : Aggregate) (xs : List Value) → counts_rows a ≡ false → next_input a xs ≡ front_of xs
its_front CountRows xs e = cc
its_front Count xs e = refl
its_front (Sum p) xs e = refl
its_front (SumInventory p) xs e = refl
its_front First xs e = refl
its_front Last xs e = refl
its_front Min xs e = refl
its_front Max xs e = refl

none_left : (xs : List Value) (k : ℕ) → length xs ≤ k → drop k xs ≡ []
none_left [] zero h = refl
none_left [] (suc k) h = refl
none_left (x ∷ xs) zero h = absurd (omega arith)
none_left (x ∷ xs) (suc k) h = none_left xs k (omega arith)

from_at : (xs : List Value) (k : ℕ) (d : Value) → k < length xs
    → drop k xs ≡ get_or xs k d ∷ drop (suc k) xs
from_at [] k d h = absurd (omega arith)
from_at (x ∷ xs) zero d h = refl
from_at (x ∷ xs) (suc k) d h = from_at xs k d (omega arith)

pub there : (a : Aggregate) (t : Value) (xs : List Value) (at : ℕ) → taking a t (drop at xs) ≢ None
    → counts_rows a ≡ false → at < length xs
there a t xs at some rows = ⊎_elim (λ h. h) (λ h. absurd (none h)) (cases_lt at (length xs))
  where
    none : length xs ≤ at → ⊥
    none h =
        some (ap (of_input a t) (its_front a (drop at xs) rows)
        ∙ ap (λ l. of_input a t (front_of l)) (none_left xs at h))

front_at : (a : Aggregate) (xs : List Value) (at : ℕ) (d : Value) → counts_rows a ≡ false
    → at < length xs → next_input a (drop at xs) ≡ Some (get_or xs at d, drop (at + 1) xs)
front_at a xs at d rows h =
    its_front a (drop at xs) rows ∙ ap front_of (from_at xs at d h)
    ∙ ap (λ n. Some (get_or xs at d, drop n xs)) (sym (add-one at))

pub taken : (a : Aggregate) (t : Value) (xs : List Value) (at : ℕ) (d : Value)
    → taking a t (drop at xs) ≢ None → counts_rows a ≡ false → at < length xs
    → with_value a t (get_or xs at d) ≢ None
taken a t xs at d some rows h none =
    some (ap (of_input a t) (front_at a xs at d rows h)
    ∙ ap (option_map (λ u. (u, drop (at + 1) xs))) none)

pub taken_is : (a : Aggregate) (t u : Value) (xs : List Value) (at : ℕ) (d : Value)
    → counts_rows a ≡ false → at < length xs → with_value a t (get_or xs at d) ≡ Some u
    → taking a t (drop at xs) ≡ Some (u, drop (at + 1) xs)
taken_is a t u xs at d rows h made =
    ap (of_input a t) (front_at a xs at d rows h)
    ∙ ap (option_map (λ u. (u, drop (at + 1) xs))) made
