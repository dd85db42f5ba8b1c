-- A transaction balances once its last leg has taken what the legs before it lack together.
use Rattle.std.proofs.Common.{◌≡◌, ◌+ℤ◌, ◌≤◌, ◌||◌, ◌&&◌, ℕ, pos, Bool, true, false, cond, nat_lt}
use Rattle.std.proofs.Common.{not, Option, Some, None, List, [], ◌∷◌, ◌++◌, length, map, filter, refl, sym, ap}
use Rattle.std.proofs.Common.{◌∙◌, subst, arith}
use Rattle.std.proofs.Math.IntN.{+ℤ_idr}
use Rattle.std.proofs.lemmas.Bool.Decides.{Decides-int_eq, nat_tests}
use Rattle.std.proofs.lemmas.List.{append-nil}
use Rattle.std.proofs.lemmas.Slice.Eq.{bytes_eq-Decides}
use Rattle.std.specs.Int.RustNames.{unsigned_abs}
use Rattle.std.specs.List.{AllByRecursion, list_all, list_any}
use Rattle.std.specs.Ordering.{int_eq}
use Rattle.std.specs.Str.{bytes_eq}
use Rattle.bean_interp.specs.Balance.{is_balanced, is_even}
use Rattle.bean_interp.specs.Completion.{AreFills}
use Rattle.bean_interp.specs.Evened.{IsEvened, completed_residual, weight_of_fill}
use Rattle.bean_interp.specs.Filled.{AreOfFills, IsOfFill}
use Rattle.bean_interp.specs.Lacking.{is_whole}
use Rattle.bean_interp.specs.Residual.{currencies, lacking, lacks_in, residual, sum_in}
use Rattle.bean_interp.specs.Residual.{weighed, weighed_in}
use Rattle.bean_interp.specs.Tolerance.{half_unit, lesser, precision, tolerance, with_written}
use Rattle.bean_interp.specs.Weight.{count_of, currency_of}
use Rattle.bean_interp.specs.declared.fill.Fill.{Fill}
use Rattle.bean_interp.specs.declared.leg.Leg.{Leg}
use Rattle.bean_interp.specs.declared.leg.Leg.TheVariants.{Whole, MissingNumber, MissingAmount}
use Rattle.bean_interp.proofs.EvenedFacts.{completed_is_evened, gap_names, names, names_of_fills}
use Rattle.bean_interp.proofs.EvenedFacts.{names_of_gaps, sum_apart, sum_append}
use Rattle.bean_interp.proofs.LastFacts.{gaps_behind, lacking_last, not_too_much}
use Rattle.bean_interp.proofs.PrecisionFacts.{precision_push}
use Rattle.bean_interp.proofs.TableFacts.{summed}

-- ---- what is filled in weighs itself, and has no decimals that are written

weighed_append : (xs ys : List Leg) → weighed (xs ++ ys) ≡ weighed xs ++ weighed ys
weighed_append [] ys = refl
weighed_append (Whole w ∷ xs) ys = ap (λ ws. weighed_in (Whole w) ++ ws) (weighed_append xs ys)
weighed_append (MissingNumber c ∷ xs) ys = weighed_append xs ys
weighed_append (MissingAmount ∷ xs) ys = weighed_append xs ys

weighs_itself : (f : Fill) (leg : Leg) → IsOfFill f leg → weighed_in leg ≡ weight_of_fill f ∷ []
weighs_itself f (Whole w) is =
    (λ i. (currency_of (is.0 i) (is.1 i), count_of (is.0 i) (is.1 i)) ∷ [])
weighs_itself f (MissingNumber c) is = absurd is
weighs_itself f MissingAmount is = absurd is

weigh_themselves : (fs : List Fill) (legs : List Leg) → AreOfFills fs legs
    → weighed legs ≡ map weight_of_fill fs
weigh_themselves [] [] are = refl
weigh_themselves [] (leg ∷ legs) are = absurd are
weigh_themselves (f ∷ fs) [] are = absurd are
weigh_themselves (f ∷ fs) (leg ∷ legs) are =
    (λ i. weighs_itself f leg are.0 i ++ weigh_themselves fs legs are.1 i)

not_written : (f : Fill) (leg : Leg) (c : List ℕ) (least : Option ℕ) → IsOfFill f leg
    → with_written leg c least ≡ least
not_written f (Whole w) c least is =
    ap
    (λ d. cond (nat_lt 0 d && bytes_eq w.units.currency c) (Some (lesser w.decimals least)) least)
    is.2
not_written f (MissingNumber m) c least is = refl
not_written f MissingAmount c least is = refl

none_written : (fs : List Fill) (legs : List Leg) (c : List ℕ) → AreOfFills fs legs
    → precision legs c ≡ None
none_written [] [] c are = refl
none_written [] (leg ∷ legs) c are = absurd are
none_written (f ∷ fs) [] c are = absurd are
none_written (f ∷ fs) (leg ∷ legs) c are =
    not_written f leg c (precision legs c) are.0 ∙ none_written fs legs c are.1

precision_behind : (xs ys : List Leg) (c : List ℕ) → precision ys c ≡ None
    → precision (xs ++ ys) c ≡ precision xs c
precision_behind [] ys c none = none
precision_behind (x ∷ xs) ys c none = ap (with_written x c) (precision_behind xs ys c none)

-- ---- names among others

no_truth : true ≡ false → ⊥
no_truth e = cc

-- what is among some and not among those that are kept isn't kept
not_kept : (p : List ℕ → Bool) (c : List ℕ) (cs : List (List ℕ)) → list_any (bytes_eq c) cs ≡ true
    → list_any (bytes_eq c) (filter p cs) ≡ false → p c ≡ false
not_kept p c [] there none = cc
not_kept p c (d ∷ cs) there none = by (bytes_eq c d) (p d) refl refl there none (not_kept p c cs)
  where
    by : (b keep : Bool) → bytes_eq c d ≡ b → p d ≡ keep → (b || list_any (bytes_eq c) cs) ≡ true
        → list_any (bytes_eq c) (cond keep (d ∷ filter p cs) (filter p cs)) ≡ false
        → (list_any (bytes_eq c) cs ≡ true → list_any (bytes_eq c) (filter p cs) ≡ false → p c ≡ false)
        → p c ≡ false
    by true true same kept there none later =
        absurd (no_truth (sym (ap (λ b. b || list_any (bytes_eq c) (filter p cs)) same) ∙ none))
    by true false same kept there none later = ap p ((bytes_eq-Decides c d).0 same) ∙ kept
    by false true other kept there none later =
        later there (sym (ap (λ b. b || list_any (bytes_eq c) (filter p cs)) other) ∙ none)
    by false false other kept there none later = later there none

-- a currency that doesn't lack anything has weights that come to nothing
lacks_nothing : (legs : List Leg) (c : List ℕ) → list_any (bytes_eq c) (lacking legs) ≡ false
    → residual legs c ≡ pos 0
lacks_nothing legs c none = by (list_any (bytes_eq c) (currencies (weighed legs))) refl
  where
    zero : (b : Bool) → int_eq (residual legs c) (pos 0) ≡ b → not b ≡ false
        → residual legs c ≡ pos 0
    zero true is lacks = (Decides-int_eq (residual legs c) (pos 0)).0 is
    zero false is lacks = cc

    by : (b : Bool) → list_any (bytes_eq c) (currencies (weighed legs)) ≡ b
        → residual legs c ≡ pos 0
    by true there =
        zero (int_eq (residual legs c) (pos 0)) refl
        (not_kept (lacks_in legs) c (currencies (weighed legs)) there none)
    by false never = (summed (weighed legs)).absent c never

-- ---- so all is even

module _ (legs : List Leg) (whole : list_all is_whole legs ≡ true) (fills : List Fill)
    (are : AreFills (lacking_last legs) fills) (filled : List Leg) (of_fills : AreOfFills fills filled)
  where
    abbrev all : List Leg
    all = lacking_last legs

    abbrev booked : List Leg
    booked = legs ++ filled

    weights : weighed booked ≡ weighed all ++ map weight_of_fill fills
    weights =
        weighed_append legs filled
        ∙ (λ i. sym (weighed_append legs (MissingAmount ∷ []) ∙ append-nil (weighed legs)) i
        ++ weigh_themselves fills filled of_fills i)

    tolerances : (c : List ℕ) → tolerance booked c ≡ tolerance all c
    tolerances c =
        ap half_unit
        (precision_behind legs filled c (none_written fills filled c of_fills)
        ∙ sym (precision_push legs MissingAmount c))

    abbrev Is : List ℕ → Type 0
    Is c = unsigned_abs (completed_residual all fills c) ≤ tolerance all c

    among : (c : List ℕ) (fs : List Fill)
        → list_any (bytes_eq c) (names (map weight_of_fill fs)) ≡ true
        → AllByRecursion (IsEvened all fills) fs → Is c
    among c [] there each = cc
    among c (f ∷ fs) there each = by (bytes_eq c f.amount.currency) refl there (among c fs)
      where
        by : (b : Bool) → bytes_eq c f.amount.currency ≡ b
            → (b || list_any (bytes_eq c) (names (map weight_of_fill fs))) ≡ true
            → (list_any (bytes_eq c) (names (map weight_of_fill fs)) ≡ true
            → AllByRecursion (IsEvened all fills) fs → Is c)
            → Is c
        by true same there later =
            subst Is (sym ((bytes_eq-Decides c f.amount.currency).0 same)) each.0
        by false other there later = later there each.1

    lacking_names : names (map weight_of_fill fills) ≡ lacking all
    lacking_names =
        names_of_fills fills
        ∙ ap gap_names (are.gaps_are ∙ gaps_behind all legs 0 (length legs) whole (omega arith))
        ∙ names_of_gaps (length legs) (lacking all)

    within : (c : List ℕ) → Is c
    within c = by (list_any (bytes_eq c) (names (map weight_of_fill fills))) refl
      where
        by : (b : Bool) → list_any (bytes_eq c) (names (map weight_of_fill fills)) ≡ b → Is c
        by true there =
            among c fills there (completed_is_evened all fills (not_too_much legs whole) are)
        by false none =
            let zero : completed_residual all fills c ≡ pos 0 =
            sum_append (weighed all) (map weight_of_fill fills) c
            ∙ ap (λ z. residual all c +ℤ z) (sum_apart (map weight_of_fill fills) c none)
            ∙ +ℤ_idr (residual all c)
            ∙ lacks_nothing all c (ap (list_any (bytes_eq c)) (sym lacking_names) ∙ none) in
            subst (λ z. unsigned_abs z ≤ tolerance all c) (sym zero) (omega arith)

    even : (c : List ℕ) → is_even booked c ≡ true
    even c =
        let few : unsigned_abs (residual booked c) ≤ tolerance booked c =
        subst (λ n. unsigned_abs (residual booked c) ≤ n) (sym (tolerances c))
        (subst (λ ws. unsigned_abs (sum_in ws c) ≤ tolerance all c) (sym weights) (within c)) in
        grind (arith, nat_tests, few)

    all_even : (cs : List (List ℕ)) → list_all (is_even booked) cs ≡ true
    all_even [] = refl
    all_even (c ∷ cs) = λ i. even c i && all_even cs i

    pub balanced_last : is_balanced booked ≡ true
    balanced_last = all_even (currencies (weighed booked))
