-- Putting inputs into their group is writing under its keys, wherever these were found.
use Rattle.std.proofs.Common.{◌≡◌, ◌≢◌, Bool, true, false, cond, List, [], ◌∷◌, Option, Some, None}
use Rattle.std.proofs.Common.{ℕ, position, slice_get, unwrap_or, refl, sym, ap, ◌∙◌}
use Rattle.std.specs.Cmp.{IsEquivalence}
use Rattle.std.specs.List.{IsDistinct}
use Rattle.std.specs.Prelude.{option_map}
use Rattle.std.specs.Map.{keys_of, lookup}
use Rattle.indexmap.proofs.MapLemmas.{index-first}
use Rattle.indexmap.proofs.RemoveLemmas.{own_first}
use Rattle.indexmap.specs.IndexMap.{insert_entry}
use Rattle.plain_machine.specs.Gathering.{Keeping, Group, cons_if, group_if, put}
use Rattle.query_rows.specs.Same.{same_values}
use Rattle.query_values.specs.declared.value.Value.{Value}

abbrev Kept : Type 0
Kept = Group (List Value)

module _ (keep : Keeping (List Value)) (keys inputs : List Value) where
  -- what stands under the keys, or the start
  abbrev pub there : List Kept → List Value
  there gs = unwrap_or (lookup (same_values keys) gs) keep.start

  pub put_is : (gs : List Kept)
      → put keep gs keys inputs
      ≡ option_map (insert_entry same_values gs keys) (keep.add (there gs) inputs)
  put_is [] = by (keep.add keep.start inputs)
    where
      by : (o : Option (List Value)) → group_if keys o [] ≡ option_map (λ x. (keys, x) ∷ []) o
      by None = refl
      by (Some x) = refl
  put_is (g ∷ gs) = by (same_values keys g.0) (put_is gs)
    where
      here : (o : Option (List Value)) → group_if g.0 o gs ≡ option_map (λ x. (g.0, x) ∷ gs) o
      here None = refl
      here (Some x) = refl

      on : (o : Option (List Value))
          → cons_if (Some g) (option_map (insert_entry same_values gs keys) o)
          ≡ option_map (λ x. g ∷ insert_entry same_values gs keys x) o
      on None = refl
      on (Some x) = refl

      by : (b : Bool)
          → put keep gs keys inputs
          ≡ option_map (insert_entry same_values gs keys) (keep.add (there gs) inputs)
          → cond b (group_if g.0 (keep.add g.1 inputs) gs)
          (cons_if (Some g) (put keep gs keys inputs))
          ≡ option_map
          (λ x. cond b ((g.0, x) ∷ gs) (g ∷ insert_entry same_values gs keys x))
          (keep.add (unwrap_or (cond b (Some g.1) (lookup (same_values keys) gs)) keep.start) inputs)
      by true e = here (keep.add g.1 inputs)
      by false e = ap (cons_if (Some g)) e ∙ on (keep.add (there gs) inputs)

  -- what stands there takes the inputs
  pub is_taken : (gs : List Kept) (x : List Value) → put keep gs keys inputs ≢ None
      → there gs ≡ x → keep.add x inputs ≢ None
  is_taken gs x some e none =
      some (put_is gs ∙ ap (option_map (insert_entry same_values gs keys))
      (ap (λ x. keep.add x inputs) e ∙ none))

  pub is_put : (gs new : List Kept) (x y : List Value) → there gs ≡ x → keep.add x inputs ≡ Some y
      → new ≡ insert_entry same_values gs keys y → put keep gs keys inputs ≡ Some new
  is_put gs new x y e made is =
      put_is gs ∙ ap (option_map (insert_entry same_values gs keys))
      (ap (λ x. keep.add x inputs) e ∙ made)
      ∙ ap Some (sym is)

-- where one of keys that are told apart is the same as the one that is sought, the search ends there
pub place_is : {K X : Type 0} {same : K → K → Bool} → IsEquivalence same
    → (es : List (K × X)) (i : ℕ) (sought : K) (e : K × X) → IsDistinct same (keys_of es)
    → slice_get es i ≡ Some e → same sought e.0 ≡ true
    → position (same sought) (keys_of es) ≡ Some i
place_is {same} o es i sought e distinct at alike =
    (λ j. position (λ x. o.congr sought e.0 x alike j) (keys_of es))
    ∙ index-first (same e.0) es i (own_first same o es i e.0 e.1 distinct at)
