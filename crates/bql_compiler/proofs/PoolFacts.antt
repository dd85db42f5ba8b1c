-- What stands at the index of a constant is the constant, if anything stands there.
use Rattle.std.proofs.Common.{◌≡◌, ◌⊎◌, ℕ, suc, ◌≤◌, ◌<◌, ◌^◌, Bool, true, false, cond, ◌&&◌}
use Rattle.std.proofs.Common.{◌==◌, List, [], ◌∷◌, Option, Some, None, refl, sym, ap, ◌∙◌, inl}
use Rattle.std.proofs.Common.{inr}
use Rattle.std.specs.Prelude.{slice_get, option_and_then}
use Rattle.std.specs.Bool.{Decides}
use Rattle.std.specs.Coded.{le_prop}
use Rattle.std.specs.Cmp.Lexicographic.{pointwise}
use Rattle.std.specs.Int.RustNames.{unsigned_abs}
use Rattle.std.specs.Ordering.{int_eq}
use Rattle.std.proofs.lemmas.Bool.Decides.{Decides-int_eq, Decides-eqb}
use Rattle.std.proofs.lemmas.Slice.Eq.{slice_eq-Decides}
use mathlib.Core.HLevel.{is_prop→PathP}
use Rattle.bean_base.proofs.DayFacts.{same_day_Decides}
use Rattle.bql_code.specs.Pool.{index_in, same_constant, same_text}
use Rattle.query_code.specs.declared.program.Constant.{Constant}
use Rattle.query_code.specs.declared.program.Constant.TheVariants as constants
use Rattle.query_code.specs.declared.program.Numbers.{Numbers}
use Rattle.query_values.specs.Choice.{same_day}
use Rattle.query_terms.specs.declared.decimal.Decimal.{Decimal}

-- ---- equal constants are one

both : (a b : Bool) → (a && b) ≡ true → (a ≡ true) × (b ≡ true)
both true b e = (refl, e)
both false b e = cc

texts : (a b : List ℕ) → Decides (same_text a b) (a ≡ b)
texts a b = slice_eq-Decides Decides-eqb a b (same_text a b) refl

one_decimal : (m n : Decimal) → m.places ≡ n.places → m.count ≡ n.count → m ≡ n
one_decimal m n places count = λ i. record {
  count = count i;
  places = places i;
  narrow = is_prop→PathP (λ j. places j ≤ 32) (λ j. hlevel le_prop) m.narrow n.narrow i;
  in_range =
      is_prop→PathP (λ j. unsigned_abs (count j) < 2 ^ 127) (λ j. hlevel le_prop) m.in_range
      n.in_range i;
}

one_list : (m n : Numbers) → m.places ≡ n.places → m.counts ≡ n.counts → m ≡ n
one_list m n places counts = λ i. record { places = places i; counts = counts i }

one_constant : (c d : Constant) → same_constant c d ≡ true → c ≡ d
one_constant (constants.Text a) (constants.Text b) e = ap constants.Text ((texts a b).0 e)
one_constant (constants.Number m) (constants.Number n) e =
    let h = both (m.places == n.places) (int_eq m.count n.count) e in
    ap constants.Number (one_decimal m n ((Decides-eqb m.places n.places).0 h.0)
    ((Decides-int_eq m.count n.count).0 h.1))
one_constant (constants.Day d) (constants.Day f) e = ap constants.Day ((same_day_Decides d f).0 e)
one_constant (constants.Pattern a) (constants.Pattern b) e =
    ap constants.Pattern ((texts a b).0 e)
one_constant (constants.Texts ss) (constants.Texts ts) e =
    ap constants.Texts ((slice_eq-Decides texts ss ts (pointwise same_text ss ts) refl).0 e)
one_constant (constants.Numbers ms) (constants.Numbers ns) e =
    let h = both (ms.places == ns.places) (pointwise int_eq ms.counts ns.counts) e in
    ap constants.Numbers (one_list ms ns ((Decides-eqb ms.places ns.places).0 h.0)
    ((slice_eq-Decides Decides-int_eq ms.counts ns.counts (pointwise int_eq ms.counts ns.counts)
    refl).0 h.1))
one_constant (constants.Days ds) (constants.Days es) e =
    ap constants.Days ((slice_eq-Decides same_day_Decides ds es (pointwise same_day ds es) refl).0 e)
one_constant c d e = absurd cc

-- ---- at its index

found : (pool : List Constant) (c d : Constant) → slice_get pool (index_in pool c) ≡ Some d
    → c ≡ d
found [] c d e = cc
found (x ∷ pool) c d e = by (same_constant c x) refl e (found pool c d)
  where
    same : (x d : Constant) → Some x ≡ Some d → x ≡ d
    same x d e = cc

    by : (b : Bool) → same_constant c x ≡ b
        → slice_get (x ∷ pool) (cond b 0 (suc (index_in pool c))) ≡ Some d
        → (slice_get pool (index_in pool c) ≡ Some d → c ≡ d) → c ≡ d
    by true is e rest = one_constant c x is ∙ same x d e
    by false is e rest = rest e

-- what is made of it is made of the constant, or of nothing
pub at_index : {A : Type 0} (f : Constant → Option A) (pool : List Constant) (c : Constant)
    → (option_and_then f (slice_get pool (index_in pool c)) ≡ None)
    ⊎ (option_and_then f (slice_get pool (index_in pool c)) ≡ f c)
at_index f pool c = by (slice_get pool (index_in pool c)) refl
  where
    by : (o : Option Constant) → slice_get pool (index_in pool c) ≡ o
        → (option_and_then f o ≡ None) ⊎ (option_and_then f o ≡ f c)
    by None e = inl refl
    by (Some d) e = inr (ap f (sym (found pool c d e)))
