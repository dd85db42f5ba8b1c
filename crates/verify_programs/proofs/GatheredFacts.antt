-- What is gathered, one aggregate after the other.
use Rattle.std.proofs.Common.{◌≡◌, ℕ, ◌+◌, ◌<◌, List, [], ◌∷◌, ◌++◌, Option, Some, None, Ok, Err}
use Rattle.std.proofs.Common.{Bool, true, false, refl, sym, ap, ◌∙◌, append_assoc, subst, length, get_or}
use Rattle.std.proofs.Common.{drop, drop-cons, add-one}
use Rattle.std.specs.Prelude.{option_and_then, option_map}
use Rattle.query_values.specs.declared.operation.Aggregate.{Aggregate}
use Rattle.query_values.specs.declared.operation.Aggregate.TheVariants.{CountRows}
use Rattle.query_rows.specs.Rules.{Ruled, aggregate_shape}
use Rattle.query_rows.specs.declared.shape.Misfit.{Misfit}
use Rattle.query_rows.specs.declared.shape.Shape.{Shape}
use Rattle.well_shaped.specs.Ends.{cons_if, gathered}
use Rattle.well_shaped.specs.Sections.{given}
use Rattle.verify_programs.specs.Ending.{input_at}

abbrev behind : ℕ → Aggregate → List Aggregate → Option Shape × List Shape → Option (List Shape)
behind n a left i = cons_if (given (aggregate_shape n a i.0)) (gathered n left i.1)

step : (n : ℕ) (a : Aggregate) (left : List Aggregate) (rest : List Shape)
    → gathered n (a ∷ left) rest ≡ option_and_then (behind n a left) (input_at a rest)
step n CountRows left rest = refl
step n a left [] = refl
step n a left (s ∷ rest) = refl

-- So far: nothing, once what is gathered might not be held; else what is gathered, and the rest.
abbrev pub Gathering : ℕ → Option (List Shape) → Bool → List Shape → List Aggregate → List Shape
    → Type 0
Gathering n all true totals left rest = all ≡ None
Gathering n all false totals left rest =
    all ≡ option_map (λ xs. totals ++ xs) (gathered n left rest)

pub nothing_yet : (n : ℕ) (aggregates : List Aggregate) (inputs : List Shape)
    → Gathering n (gathered n aggregates inputs) false [] aggregates inputs
nothing_yet n aggregates inputs = by (gathered n aggregates inputs)
  where
    by : (o : Option (List Shape)) → o ≡ option_map (λ xs. [] ++ xs) o
    by None = refl
    by (Some xs) = refl

module _ (n : ℕ) (all : Option (List Shape)) (totals : List Shape) (a : Aggregate)
    (left : List Aggregate) (rest : List Shape) where
  pub no_input : (wide : Bool) → Gathering n all wide totals (a ∷ left) rest
      → input_at a rest ≡ None → all ≡ None
  no_input true so e = so
  no_input false so e =
      so ∙ ap (option_map (λ xs. totals ++ xs))
      (step n a left rest ∙ ap (option_and_then (behind n a left)) e)

  module _ (x : Option Shape) (others : List Shape) (is : input_at a rest ≡ Some (x, others)) where
    here : (r : Ruled) → aggregate_shape n a x ≡ r
        → gathered n (a ∷ left) rest ≡ cons_if (given r) (gathered n left others)
    here r e =
        step n a left rest ∙ (ap (option_and_then (behind n a left)) is
        ∙ ap (λ (s : Ruled). cons_if (given s) (gathered n left others)) e)

    pub misfits : (e : Misfit) → aggregate_shape n a x ≡ Err e → (wide : Bool)
        → Gathering n all wide totals (a ∷ left) rest → all ≡ None
    misfits e is_err true so = so
    misfits e is_err false so = so ∙ ap (option_map (λ xs. totals ++ xs)) (here (Err e) is_err)

    cons_on : (s : Shape) (o : Option (List Shape))
        → option_map (λ xs. totals ++ xs) (cons_if (Some s) o)
        ≡ option_map (λ xs. (totals ++ s ∷ []) ++ xs) o
    cons_on s None = refl
    cons_on s (Some xs) = ap Some (sym (append_assoc totals (s ∷ []) xs))

    pub one_total : (s : Shape) → aggregate_shape n a x ≡ Ok s → (wide : Bool)
        → Gathering n all wide totals (a ∷ left) rest
        → Gathering n all wide (totals ++ s ∷ []) left others
    one_total s is_ok true so = so
    one_total s is_ok false so =
        so ∙ (ap (option_map (λ xs. totals ++ xs)) (here (Ok s) is_ok)
        ∙ cons_on s (gathered n left others))

pub left_over : (n : ℕ) (all : Option (List Shape)) (wide : Bool) (totals rest : List Shape)
    → Gathering n all wide totals [] rest → ((rest ≡ []) → ⊥) → all ≡ None
left_over n all true totals rest so some = so
left_over n all false totals [] so some = absurd (some refl)
left_over n all false totals (s ∷ rest) so some = so

pub all_gathered : (n : ℕ) (all : Option (List Shape)) (totals : List Shape)
    → Gathering n all false totals [] [] → all ≡ Some (totals ++ [])
all_gathered n all totals so = so

-- ---- one after the other

module _ (n : ℕ) (all : Option (List Shape)) (wide after : Bool) (totals more : List Shape)
    (aggregates : List Aggregate) (k : ℕ) (d : Aggregate) (rest others : List Shape)
    (x : Option Shape) (within : k < length aggregates)
    (is : input_at (get_or aggregates k d) rest ≡ Some (x, others))
    (so : Gathering n all wide totals (drop k aggregates) rest) where
  so_far : Gathering n all wide totals (get_or aggregates k d ∷ drop (k + 1) aggregates) rest
  so_far =
      subst (λ l. Gathering n all wide totals l rest)
      (drop-cons aggregates k d within ∙ ap (λ j. get_or aggregates k d ∷ drop j aggregates)
      (sym (add-one k))) so

  pub total_more : (s : Shape) → aggregate_shape n (get_or aggregates k d) x ≡ Ok s
      → after ≡ wide → more ≡ totals ++ s ∷ []
      → Gathering n all after more (drop (k + 1) aggregates) others
  total_more s e same pushed =
      subst (λ b. Gathering n all b more (drop (k + 1) aggregates) others) (sym same)
      (subst (λ l. Gathering n all wide l (drop (k + 1) aggregates) others) (sym pushed)
      (one_total n all totals (get_or aggregates k d) (drop (k + 1) aggregates) rest x others is s e
      wide so_far))

  pub wide_more : (e : Misfit) → aggregate_shape n (get_or aggregates k d) x ≡ Err e
      → after ≡ true → Gathering n all after more (drop (k + 1) aggregates) others
  wide_more e is_err now =
      subst (λ b. Gathering n all b more (drop (k + 1) aggregates) others) (sym now)
      (misfits n all totals (get_or aggregates k d) (drop (k + 1) aggregates) rest x others is e
      is_err wide so_far)
