-- Why a completed transaction balances in the currencies that were filled in.
use Rattle.std.proofs.Common.{◌≡◌, ◌+◌, ◌-◌, ◌*◌, ◌+ℤ◌, ◌-ℤ◌, ◌*ℤ◌, ◌<◌, ◌≤◌, ◌^◌, ℕ, zero, suc, ℤ}
use Rattle.std.proofs.Common.{pos, negsuc, neg_ℤ, Bool, true, false, cond, ◌||◌, ◌&&◌, nat_lt}
use Rattle.std.proofs.Common.{Option, Some, None, List, [], ◌∷◌, ◌++◌, map, filter, refl, sym, ap}
use Rattle.std.proofs.Common.{◌∙◌, subst, arith}
use Rattle.std.proofs.Math.IntN.{+ℤ_assoc, +ℤ_idl, +ℤ_idr, +ℤ_comm, +ℤ_invr}
use Rattle.std.proofs.lemmas.List.{append-nil}
use Rattle.std.proofs.lemmas.Nat.{pow-add}
use Rattle.std.proofs.Math.Nat.{one-le-pow}
use Rattle.std.specs.Cmp.Lexicographic.{nat_list_eq_equiv}
use Rattle.std.specs.Int.RustNames.{unsigned_abs}
use Rattle.std.specs.List.{AllByRecursion, list_any}
use Rattle.std.specs.Prelude.{IfSome}
use Rattle.std.specs.Str.{bytes_eq}
use Rattle.bean_base.proofs.DecimalFacts.{is_nearest}
use Rattle.bean_base.specs.Decimal.{rounded}
use Rattle.bean_interp.specs.Completion.{AreFills, Fills, gap_of, gaps_from}
use Rattle.bean_interp.specs.Due.{due}
use Rattle.bean_interp.specs.Evened.{IsEvened, completed_residual, weight_of_fill}
use Rattle.bean_interp.specs.Lacking.{clash, lack_too_much}
use Rattle.bean_interp.specs.Residual.{Weighed, currencies, lacking, lacks_in, residual, sum_in}
use Rattle.bean_interp.specs.Residual.{weighed}
use Rattle.bean_interp.specs.Tolerance.{half_unit, lesser, precision, tolerance, with_written}
use Rattle.bean_interp.specs.declared.fill.Fill.{Fill}
use Rattle.bean_interp.specs.declared.leg.Leg.{Leg}
use Rattle.bean_interp.specs.declared.leg.Leg.TheVariants.{Whole, MissingNumber, MissingAmount}
use Rattle.bean_interp.proofs.TableFacts.{AreApart, summed}

-- ---- sums

pub sum_append : (xs ys : List Weighed) (c : List ℕ) → sum_in (xs ++ ys) c ≡ sum_in xs c +ℤ sum_in ys c
sum_append [] ys c = sym (+ℤ_idl (sum_in ys c))
sum_append (x ∷ xs) ys c = by (bytes_eq x.0 c) (sum_append xs ys c)
  where
    by : (b : Bool) → sum_in (xs ++ ys) c ≡ sum_in xs c +ℤ sum_in ys c
        → cond b (x.1 +ℤ sum_in (xs ++ ys) c) (sum_in (xs ++ ys) c)
        ≡ cond b (x.1 +ℤ sum_in xs c) (sum_in xs c) +ℤ sum_in ys c
    by true later = ap (λ z. x.1 +ℤ z) later ∙ sym (+ℤ_assoc x.1 (sum_in xs c) (sum_in ys c))
    by false later = later

abbrev pub names : List Weighed → List (List ℕ)
names ws = map (λ w. w.0) ws

-- what weighs in no currency of these sums to nothing in it
pub sum_apart : (ws : List Weighed) (c : List ℕ) → list_any (bytes_eq c) (names ws) ≡ false
    → sum_in ws c ≡ pos 0
sum_apart [] c none = refl
sum_apart (w ∷ ws) c none = by (bytes_eq c w.0) refl none (sum_apart ws c)
  where
    by : (b : Bool) → bytes_eq c w.0 ≡ b → (b || list_any (bytes_eq c) (names ws)) ≡ false
        → (list_any (bytes_eq c) (names ws) ≡ false → sum_in ws c ≡ pos 0)
        → cond (bytes_eq w.0 c) (w.1 +ℤ sum_in ws c) (sum_in ws c) ≡ pos 0
    by true same never later = absurd cc
    by false other rest later =
        ap (λ b. cond b (w.1 +ℤ sum_in ws c) (sum_in ws c)) (nat_list_eq_equiv.symm w.0 c ∙ other)
        ∙ later rest

-- weights in different currencies are each the sum in its own
abbrev AreAlone : List Weighed → List Weighed → Type 0
AreAlone all ws = AllByRecursion (λ w. sum_in all w.0 ≡ w.1) ws

apart_from : (k : List ℕ) (n : ℤ) (all ws : List Weighed) → list_any (bytes_eq k) (names ws) ≡ false
    → AreAlone all ws → AreAlone ((k, n) ∷ all) ws
apart_from k n all [] none alone = tt
apart_from k n all (w ∷ ws) none alone = by (bytes_eq k w.0) refl none (apart_from k n all ws)
  where
    by : (b : Bool) → bytes_eq k w.0 ≡ b → (b || list_any (bytes_eq k) (names ws)) ≡ false
        → (list_any (bytes_eq k) (names ws) ≡ false → AreAlone all ws → AreAlone ((k, n) ∷ all) ws)
        → AreAlone ((k, n) ∷ all) (w ∷ ws)
    by true same never later = absurd cc
    by false other rest later = (
      ap (λ b. cond b (n +ℤ sum_in all w.0) (sum_in all w.0)) other
          ∙ alone.0,
      later rest alone.1,
    )

alone : (ws : List Weighed) → AreApart (names ws) → AreAlone ws ws
alone [] apart = tt
alone (w ∷ ws) apart = (
  ap (λ b. cond b (w.1 +ℤ sum_in ws w.0) (sum_in ws w.0)) (nat_list_eq_equiv.refl w.0)
      ∙ ap (λ z. w.1 +ℤ z) (sum_apart ws w.0 apart.0) ∙ +ℤ_idr w.1,
  apart_from w.0 w.1 ws ws apart.0 (alone ws apart.1),
)

-- ---- the gaps of a transaction are in different currencies

abbrev pub gap_names : List (ℕ × List ℕ) → List (List ℕ)
gap_names gs = map (λ g. g.1) gs

no_gaps : (all : List Leg) (i : ℕ) (legs : List Leg) → list_any (clash MissingAmount) legs ≡ false
    → gaps_from all i legs ≡ []
no_gaps all i [] none = refl
no_gaps all i (Whole w ∷ legs) none = no_gaps all (i + 1) legs none
no_gaps all i (MissingNumber c ∷ legs) none = absurd cc
no_gaps all i (MissingAmount ∷ legs) none = absurd cc

no_gap_of : (all : List Leg) (i : ℕ) (legs : List Leg) (c : List ℕ)
    → list_any (clash (MissingNumber c)) legs ≡ false
    → list_any (bytes_eq c) (gap_names (gaps_from all i legs)) ≡ false
no_gap_of all i [] c none = refl
no_gap_of all i (Whole w ∷ legs) c none = no_gap_of all (i + 1) legs c none
no_gap_of all i (MissingNumber d ∷ legs) c none =
    by (bytes_eq c d) none (no_gap_of all (i + 1) legs c)
  where
    by : (b : Bool) → (b || list_any (clash (MissingNumber c)) legs) ≡ false
        → (list_any (clash (MissingNumber c)) legs ≡ false
        → list_any (bytes_eq c) (gap_names (gaps_from all (i + 1) legs)) ≡ false)
        → (b || list_any (bytes_eq c) (gap_names (gaps_from all (i + 1) legs))) ≡ false
    by true never later = absurd cc
    by false rest later = later rest
no_gap_of all i (MissingAmount ∷ legs) c none = absurd cc

-- some of what is apart is apart
any_filtered : (p : List ℕ → Bool) (c : List ℕ) (cs : List (List ℕ))
    → list_any (bytes_eq c) cs ≡ false → list_any (bytes_eq c) (filter p cs) ≡ false
any_filtered p c [] none = refl
any_filtered p c (d ∷ cs) none = by (p d) (bytes_eq c d) refl none (any_filtered p c cs)
  where
    by : (keep b : Bool) → bytes_eq c d ≡ b → (b || list_any (bytes_eq c) cs) ≡ false
        → (list_any (bytes_eq c) cs ≡ false → list_any (bytes_eq c) (filter p cs) ≡ false)
        → list_any (bytes_eq c) (cond keep (d ∷ filter p cs) (filter p cs)) ≡ false
    by keep true same never later = absurd cc
    by true false other rest later = (λ i. other i || later rest i)
    by false false other rest later = later rest

pub names_of_gaps : (i : ℕ) (cs : List (List ℕ)) → gap_names (map (λ c. (i, c)) cs) ≡ cs
names_of_gaps i [] = refl
names_of_gaps i (c ∷ cs) = ap (λ ds. c ∷ ds) (names_of_gaps i cs)

apart_filtered : (p : List ℕ → Bool) (cs : List (List ℕ)) → AreApart cs → AreApart (filter p cs)
apart_filtered p [] apart = tt
apart_filtered p (c ∷ cs) apart = by (p c) (apart_filtered p cs apart.1)
  where
    by : (keep : Bool) → AreApart (filter p cs)
        → AreApart (cond keep (c ∷ filter p cs) (filter p cs))
    by true later = (any_filtered p c cs apart.0, later)
    by false later = later

both_false : (a b : Bool) → (a || b) ≡ false → (a ≡ false) × (b ≡ false)
both_false true b is = absurd cc
both_false false b is = (refl, is)

apart_gaps : (all : List Leg) (i : ℕ) (legs : List Leg) → lack_too_much legs ≡ false
    → AreApart (gap_names (gaps_from all i legs))
apart_gaps all i [] few = tt
apart_gaps all i (Whole w ∷ legs) few =
    apart_gaps all (i + 1) legs
    (both_false (list_any (clash (Whole w)) legs) (lack_too_much legs) few).1
apart_gaps all i (MissingNumber c ∷ legs) few =
    let f = both_false (list_any (clash (MissingNumber c)) legs) (lack_too_much legs) few in
    (no_gap_of all (i + 1) legs c f.0, apart_gaps all (i + 1) legs f.1)
apart_gaps all i (MissingAmount ∷ legs) few =
    let f = both_false (list_any (clash MissingAmount) legs) (lack_too_much legs) few in
    let here : gap_names (gaps_from all i (MissingAmount ∷ legs)) ≡ lacking all =
    ap (λ gs. gap_names (map (λ c. (i, c)) (lacking all) ++ gs)) (no_gaps all (i + 1) legs f.0)
    ∙ ap gap_names (append-nil (map (λ c. (i, c)) (lacking all))) ∙ names_of_gaps i (lacking all) in
    subst AreApart (sym here)
    (apart_filtered (lacks_in all) (currencies (weighed all)) (summed (weighed all)).apart)

pub names_of_fills : (fills : List Fill)
    → names (map weight_of_fill fills) ≡ gap_names (map gap_of fills)
names_of_fills [] = refl
names_of_fills (f ∷ fills) = ap (λ cs. f.amount.currency ∷ cs) (names_of_fills fills)

-- ---- what is due leaves half a unit at most

twice_negated : (r : ℤ) → neg_ℤ (neg_ℤ r) ≡ r
twice_negated (pos zero) = refl
twice_negated (pos (suc n)) = refl
twice_negated (negsuc n) = refl

left_over : (p : Option ℕ) (r : ℤ) → IfSome p (λ d. d ≤ 8)
    → unsigned_abs (r +ℤ due p r) ≤ half_unit p
left_over None r few = rw (+ℤ_invr r) (omega arith)
left_over (Some d) r few =
    let unit = 10 ^ (16 - d) in
    let positive : 0 < unit = one-le-pow (16 - d) 10 (omega arith) in
    let near = (is_nearest (neg_ℤ r) unit positive).near in
    let size : rounded (neg_ℤ r) unit *ℤ pos unit -ℤ neg_ℤ r ≡ r +ℤ due (Some d) r =
    ap (λ z. rounded (neg_ℤ r) unit *ℤ pos unit +ℤ z) (twice_negated r)
    ∙ +ℤ_comm (rounded (neg_ℤ r) unit *ℤ pos unit) r in
    let ten : 16 - d ≡ 1 + (15 - d) = omega (arith, few) in
    let whole : unit ≡ 10 * 10 ^ (15 - d) = ap (λ e. 10 ^ e) ten ∙ pow-add 10 1 (15 - d) in
    let twice : 2 * unsigned_abs (r +ℤ due (Some d) r) ≤ unit =
    subst (λ z. 2 * unsigned_abs z ≤ unit) size near in
    omega (arith, twice, whole)

few_written : (leg : Leg) (c : List ℕ) (o : Option ℕ) → IfSome o (λ d. d ≤ 8)
    → IfSome (with_written leg c o) (λ d. d ≤ 8)
few_written (Whole w) c o few = by (nat_lt 0 w.decimals && bytes_eq w.units.currency c)
  where
    least : (p : Option ℕ) → IfSome p (λ d. d ≤ 8) → lesser w.decimals p ≤ 8
    least None f = w.few
    least (Some e) f = omega (arith, w.few, f)

    by : (b : Bool) → IfSome (cond b (Some (lesser w.decimals o)) o) (λ d. d ≤ 8)
    by true = least o few
    by false = few
few_written (MissingNumber m) c o few = few
few_written MissingAmount c o few = few

few_decimals : (legs : List Leg) (c : List ℕ) → IfSome (precision legs c) (λ d. d ≤ 8)
few_decimals [] c = tt
few_decimals (leg ∷ legs) c = few_written leg c (precision legs c) (few_decimals legs c)

-- ---- the whole

each_evened : (legs : List Leg) (fills fs : List Fill)
    → AreAlone (map weight_of_fill fills) (map weight_of_fill fs)
    → AllByRecursion (λ f. Fills legs f.amount.currency f.amount.number) fs
    → AllByRecursion (IsEvened legs fills) fs
each_evened legs fills [] alone due = tt
each_evened legs fills (f ∷ fs) alone are_due =
    let c = f.amount.currency in
    let sum :
    completed_residual legs fills c
    ≡ residual legs c +ℤ due (precision legs c) (residual legs c) =
    sum_append (weighed legs) (map weight_of_fill fills) c
    ∙ ap (λ z. residual legs c +ℤ z) (alone.0 ∙ are_due.0.0) in (
      subst (λ z. unsigned_abs z
          ≤ tolerance legs c) (sym sum)
          (left_over (precision legs c) (residual legs c) (few_decimals legs c)),
      each_evened legs fills fs alone.1 are_due.1,
    )

pub completed_is_evened : (legs : List Leg) (fills : List Fill) → lack_too_much legs ≡ false
    → AreFills legs fills → AllByRecursion (IsEvened legs fills) fills
completed_is_evened legs fills few are =
    let apart : AreApart (names (map weight_of_fill fills)) =
    subst AreApart (sym (names_of_fills fills ∙ ap gap_names are.gaps_are))
    (apart_gaps legs 0 legs few) in
    each_evened legs fills fills (alone (map weight_of_fill fills) apart) are.are_due
