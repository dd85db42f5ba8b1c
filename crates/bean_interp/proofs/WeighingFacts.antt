-- What weighing one leg more keeps.
use Rattle.std.proofs.Common.{◌≡◌, ◌+◌, ◌+ℤ◌, ◌<◌, ◌≤◌, ℕ, zero, suc, pos, nat_le, Bool, true}
use Rattle.std.proofs.Common.{false, cond, List, [], ◌∷◌, ◌++◌, length, take, get_or, refl, sym, ap}
use Rattle.std.proofs.Common.{◌∙◌, subst, arith}
use Rattle.std.proofs.Math.Seq.{get_or-append_seam, take-append_seam, take-suc}
use Rattle.std.proofs.lemmas.Grind.{common_steps, flat_map-append}
use Rattle.std.proofs.lemmas.List.{append-nil, take-append-le, take_all}
use Rattle.std.specs.List.{AllByRecursion}
use Rattle.std.specs.Str.{bytes_eq}
use Rattle.std.specs.Cmp.Lexicographic.{nat_list_eq_equiv, same_text}
use Rattle.std.proofs.Math.IntN.{+ℤ_idr}
use Rattle.bean_interp.specs.Residual.{AreInRange, IsLight, Weighed, residual, sum_in, weighed}
use Rattle.bean_interp.specs.Residual.{weighed_in}
use Rattle.bean_interp.specs.Sums.{Fits, IsNarrow, entry_of, table, with_leg}
use Rattle.bean_interp.specs.Weight.{currency_of, weight_of}
use Rattle.bean_interp.specs.declared.leg.Leg.{Leg}
use Rattle.bean_interp.specs.declared.leg.Leg.TheVariants.{Whole, MissingNumber, MissingAmount}
use Rattle.theory.proofs.AllFacts.{all_pushed}
use Rattle.bean_interp.proofs.TableFacts.{entry_is, sum_push, table_push}

-- A table of the weights of legs that are in range.
pub record IsWeighed (es : List Weighed) (legs : List Leg) : Type 0 where
  pub table_is : es ≡ table (weighed legs)
  pub range : AreInRange legs

weighed_push : (legs : List Leg) (leg : Leg)
    → weighed (legs ++ leg ∷ []) ≡ weighed legs ++ weighed_in leg
weighed_push legs leg =
    flat_map-append weighed_in legs (leg ∷ [])
    ∙ ap (λ ws. weighed legs ++ ws) (append-nil (weighed_in leg))

with_leg_is : (legs : List Leg) (leg : Leg)
    → with_leg (table (weighed legs)) leg ≡ table (weighed (legs ++ leg ∷ []))
with_leg_is legs (Whole w) =
    table_push (weighed legs) (currency_of w.units w.worth, weight_of w)
    ∙ ap table (sym (weighed_push legs (Whole w)))
with_leg_is legs (MissingNumber c) =
    ap table (sym (append-nil (weighed legs)) ∙ sym (weighed_push legs (MissingNumber c)))
with_leg_is legs MissingAmount =
    ap table (sym (append-nil (weighed legs)) ∙ sym (weighed_push legs MissingAmount))

residual_push : (legs : List Leg) (leg : Leg) (c : List ℕ)
    → residual (legs ++ leg ∷ []) c ≡ sum_in (weighed legs ++ weighed_in leg) c
residual_push legs leg c = ap (λ ws. sum_in ws c) (weighed_push legs leg)

-- the sum with a leg that fits is narrow in each currency
narrow_with : (legs : List Leg) (leg : Leg) (c : List ℕ) → AreInRange legs
    → Fits (table (weighed legs)) leg → IsNarrow (residual (legs ++ leg ∷ []) c)
narrow_with legs leg c range fits = subst IsNarrow (sym (residual_push legs leg c)) (by leg fits)
  where
    before : IsNarrow (residual legs c)
    before = subst (λ ls. IsNarrow (residual ls c)) (take_all (length legs) legs (omega arith))
        (range.sums (length legs) c)

    by : (l : Leg) → Fits (table (weighed legs)) l
        → IsNarrow (sum_in (weighed legs ++ weighed_in l) c)
    by (Whole w) f =
        subst IsNarrow (sym (sum_push (weighed legs) (currency_of w.units w.worth, weight_of w) c))
        (at (bytes_eq (currency_of w.units w.worth) c) refl)
      where
        at : (b : Bool) → bytes_eq (currency_of w.units w.worth) c ≡ b
            → IsNarrow (sum_in (weighed legs) c +ℤ cond b (weight_of w) (pos 0))
        at true same =
            subst IsNarrow
            (ap (λ z. z +ℤ weight_of w)
            (entry_is (weighed legs) (currency_of w.units w.worth)
            ∙ ap (sum_in (weighed legs)) (same_text (currency_of w.units w.worth) c (sym same))))
            f.1
        at false other = subst IsNarrow (sym (+ℤ_idr (sum_in (weighed legs) c))) before
    by (MissingNumber m) f =
        subst (λ ws. IsNarrow (sum_in ws c)) (sym (append-nil (weighed legs))) before
    by MissingAmount f =
        subst (λ ws. IsNarrow (sum_in ws c)) (sym (append-nil (weighed legs))) before

is_light : (es : List Weighed) (leg : Leg) → Fits es leg → IsLight leg
is_light es (Whole w) fits = fits.0
is_light es (MissingNumber c) fits = tt
is_light es MissingAmount fits = tt

range_push : (legs : List Leg) (leg : Leg) → AreInRange legs → Fits (table (weighed legs)) leg
    → AreInRange (legs ++ leg ∷ [])
range_push legs leg range fits = record {
  light = all_pushed IsLight legs leg range.light (is_light (table (weighed legs)) leg fits);
  sums = λ k c. at k c (nat_le k (length legs)) refl;
}
  where
    at : (k : ℕ) (c : List ℕ) (b : Bool) → nat_le k (length legs) ≡ b
        → IsNarrow (residual (take k (legs ++ leg ∷ [])) c)
    at k c true le =
        subst (λ ls. IsNarrow (residual ls c))
        (sym (take-append-le k legs (leg ∷ []) (grind (arith, common_steps, le)))) (range.sums k c)
    at k c false gt =
        let long : length (legs ++ leg ∷ []) ≤ k = grind (arith, common_steps, gt) in
        subst (λ ls. IsNarrow (residual ls c)) (sym (take_all k (legs ++ leg ∷ []) long))
        (narrow_with legs leg c range fits)

succ : (i : ℕ) → i + 1 ≡ suc i
succ i = omega arith

pub weighs_on : (es : List Weighed) (legs : List Leg) (i : ℕ) (d : Leg) → i < length legs
    → IsWeighed es (take i legs) → Fits es (get_or legs i d)
    → IsWeighed (with_leg es (get_or legs i d)) (take (i + 1) legs)
weighs_on es legs i d lt so_far fits =
    let leg = get_or legs i d in
    let next : take (i + 1) legs ≡ take i legs ++ leg ∷ [] =
    ap (λ n. take n legs) (succ i) ∙ take-suc legs i d lt in
    let fit : Fits (table (weighed (take i legs))) leg =
    subst (λ t. Fits t leg) so_far.table_is fits in
    subst (IsWeighed (with_leg es leg)) (sym next)
    (record {
      table_is = ap (λ t. with_leg t leg) so_far.table_is ∙ with_leg_is (take i legs) leg;
      range = range_push (take i legs) leg so_far.range fit;
    })

pub begins : IsWeighed [] []
begins = record { table_is = refl; range = record { light = tt; sums = λ k c. nothing k c } }
  where
    nothing : (k : ℕ) (c : List ℕ) → IsNarrow (residual (take k []) c)
    nothing k c =
        subst (λ ls. IsNarrow (residual ls c)) (sym (take_all k [] (omega arith))) (omega arith)

light_at : (legs : List Leg) (i : ℕ) (d : Leg) → i < length legs → AllByRecursion IsLight legs
    → IsLight (get_or legs i d)
light_at [] i d lt all = absurd (omega (arith, lt))
light_at (leg ∷ legs) zero d lt all = all.0
light_at (leg ∷ legs) (suc i) d lt all = light_at legs i d (omega (arith, lt)) all.1

-- with a leg that fits
pub weighs_more : (es : List Weighed) (legs : List Leg) (leg : Leg) → IsWeighed es legs
    → Fits es leg → IsWeighed (with_leg es leg) (legs ++ leg ∷ [])
weighs_more es legs leg so_far fits = record {
  table_is = ap (λ t. with_leg t leg) so_far.table_is ∙ with_leg_is legs leg;
  range = range_push legs leg so_far.range (subst (λ t. Fits t leg) so_far.table_is fits);
}

-- a leg that doesn't fit is in no range
pub no_range : (legs : List Leg) (i : ℕ) (d : Leg) → i < length legs
    → ¬ Fits (table (weighed (take i legs))) (get_or legs i d) → ¬ AreInRange legs
no_range legs i d lt never range =
    never (by (get_or legs i d) (light_at legs i d lt range.light)
    (λ c. subst (λ ls. IsNarrow (residual ls c)) next (range.sums (i + 1) c)))
  where
    next : take (i + 1) legs ≡ take i legs ++ get_or legs i d ∷ []
    next = ap (λ n. take n legs) (succ i) ∙ take-suc legs i d lt

    by : (leg : Leg) → IsLight leg
        → ((c : List ℕ) → IsNarrow (residual (take i legs ++ leg ∷ []) c))
        → Fits (table (weighed (take i legs))) leg
    by (Whole w) light narrow =
        let c = currency_of w.units w.worth in
        let ws = weighed (take i legs) in
        let here : sum_in (ws ++ (c, weight_of w) ∷ []) c ≡ entry_of (table ws) c +ℤ weight_of w =
        sum_push ws (c, weight_of w) c
        ∙ (λ j. sym (entry_is ws c) j
        +ℤ cond (nat_list_eq_equiv.refl c j) (weight_of w) (pos 0)) in
        (light, subst IsNarrow (residual_push (take i legs) (Whole w) c ∙ here) (narrow c))
    by (MissingNumber c) light narrow = tt
    by MissingAmount light narrow = tt

-- whatever stands behind it
pub no_range_with : (es : List Weighed) (legs : List Leg) (leg : Leg) (later : List Leg)
    → es ≡ table (weighed legs) → ¬ Fits es leg → ¬ AreInRange (legs ++ leg ∷ later)
no_range_with es legs leg later is never =
    let all = legs ++ leg ∷ later in
    let at : get_or all (length legs) leg ≡ leg = get_or-append_seam legs leg later leg in
    let front : take (length legs) all ≡ legs = take-append_seam legs (leg ∷ later) in
    let few : length legs < length all = grind (arith, common_steps) in
    no_range all (length legs) leg few
    (λ fits. never
    (subst (λ t. Fits t leg) (sym is)
    (subst (λ ls. Fits (table (weighed ls)) leg) front
    (subst (Fits (table (weighed (take (length legs) all)))) at fits))))
