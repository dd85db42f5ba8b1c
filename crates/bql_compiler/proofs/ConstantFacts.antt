-- What is pushed by its index in the pool.
use Rattle.std.proofs.Common.{◌≡◌, ℕ, ℤ, ◌&&◌, Bool, true, false, List, [], ◌∷◌, ◌++◌, map}
use Rattle.std.proofs.Common.{Some, refl, sym, ap, ◌∙◌}
use Rattle.std.specs.Prelude.{◌==◌, option_and_then}
use Rattle.std.specs.Int.RustNames.{unsigned_abs}
use Rattle.std.specs.List.{AllByRecursion, list_all}
use Rattle.std.specs.Cmp.Lexicographic.{pointwise}
use Rattle.std.specs.Ordering.{int_eq}
use Rattle.std.proofs.lemmas.Bool.{eqb-true}
use Rattle.std.proofs.lemmas.Bool.Decides.{Decides-int_eq}
use Rattle.bean_base.specs.declared.days.Day.{Day}
use Rattle.bql_code.specs.Laws.{StandsIn}
use Rattle.bql_code.specs.Pool.{index_in, same_constant}
use Rattle.plain_machine.specs.Pool.{key_in, members_in, pattern_in}
use Rattle.plain_machine.specs.Pool.{key_at, members_at, pattern_at}
use Rattle.query_code.specs.declared.program.Constant.{Constant}
use Rattle.query_code.specs.declared.program.Constant.TheVariants as constants
use Rattle.query_code.specs.declared.program.Numbers.{Numbers}
use Rattle.query_rows.specs.Rules.{is_like}
use Rattle.query_rows.specs.declared.shape.Shape.{Shape}
use Rattle.query_rows.specs.declared.shape.Shape.TheVariants as shape
use Rattle.query_values.specs.Choice.{text_choice, number_choice, day_choice}
use Rattle.query_terms.specs.declared.decimal.Decimal.{Decimal}
use Rattle.query_values.specs.declared.value.Value.{Value}
use Rattle.well_shaped.specs.Sections.{shape_at, shape_in}

-- all of two lists one behind the other
pub all_first : {A : Type 0} (P : A → Type 0) (xs ys : List A) → AllByRecursion P (xs ++ ys)
    → AllByRecursion P xs
all_first P [] ys h = tt
all_first P (x ∷ xs) ys h = (h.0, all_first P xs ys h.1)

pub all_second : {A : Type 0} (P : A → Type 0) (xs ys : List A) → AllByRecursion P (xs ++ ys)
    → AllByRecursion P ys
all_second P [] ys h = h
all_second P (x ∷ xs) ys h = all_second P xs ys h.1

both_true : (a b : Bool) → (a && b) ≡ true → (a ≡ true) × (b ≡ true)
both_true true b e = (refl, e)
both_true false b e = cc

int_same : (m n : ℤ) → int_eq m n ≡ true → m ≡ n
int_same m n e = (Decides-int_eq m n).0 e

-- ---- by an equal constant

number_like : (n : Decimal) (c : Constant) → same_constant (constants.Number n) c ≡ true
    → shape_in c ≡ Some (shape.Number n.places (unsigned_abs n.count))
number_like n (constants.Number m) e =
    let h = both_true (n.places == m.places) (int_eq n.count m.count) e in
    let p = eqb-true n.places m.places h.0 in
    let q = int_same n.count m.count h.1 in
    λ i. Some (shape.Number (sym p i) (unsigned_abs (sym q i)))
number_like n (constants.Text t) e = cc
number_like n (constants.Day d) e = cc
number_like n (constants.Pattern t) e = cc
number_like n (constants.Texts ts) e = cc
number_like n (constants.Numbers ns) e = cc
number_like n (constants.Days ds) e = cc

text_like : (t : List ℕ) (c : Constant) → same_constant (constants.Text t) c ≡ true
    → (shape_in c ≡ Some shape.Text) × ((u : List ℕ) × (key_in c ≡ Some u))
text_like t (constants.Text u) e = (refl, (u, refl))
text_like t (constants.Number m) e = cc
text_like t (constants.Day d) e = cc
text_like t (constants.Pattern u) e = cc
text_like t (constants.Texts ts) e = cc
text_like t (constants.Numbers ns) e = cc
text_like t (constants.Days ds) e = cc

day_like : (d : Day) (c : Constant) → same_constant (constants.Day d) c ≡ true
    → shape_in c ≡ Some shape.Day
day_like d (constants.Day f) e = refl
day_like d (constants.Text t) e = cc
day_like d (constants.Number m) e = cc
day_like d (constants.Pattern t) e = cc
day_like d (constants.Texts ts) e = cc
day_like d (constants.Numbers ns) e = cc
day_like d (constants.Days ds) e = cc

pattern_like : (t : List ℕ) (c : Constant) → same_constant (constants.Pattern t) c ≡ true
    → (u : List ℕ) × (pattern_in c ≡ Some u)
pattern_like t (constants.Pattern u) e = (u, refl)
pattern_like t (constants.Text u) e = cc
pattern_like t (constants.Number m) e = cc
pattern_like t (constants.Day d) e = cc
pattern_like t (constants.Texts ts) e = cc
pattern_like t (constants.Numbers ns) e = cc
pattern_like t (constants.Days ds) e = cc

-- members that are all of one kind and of the same decimals
abbrev pub HasMembersLike : Shape → Constant → Type 0
HasMembersLike s c =
    (ys : List Value) × (members_in c ≡ Some ys) × (list_all (is_like s) ys ≡ true)

all_texts : (ts : List (List ℕ)) → list_all (is_like shape.Text) (map text_choice ts) ≡ true
all_texts [] = refl
all_texts (t ∷ ts) = all_texts ts

all_days : (ds : List Day) → list_all (is_like shape.Day) (map day_choice ds) ≡ true
all_days [] = refl
all_days (d ∷ ds) = all_days ds

all_numbers : (p q m : ℕ) (ns : List ℤ) → (p == q) ≡ true
    → list_all (is_like (shape.Number p m)) (map (number_choice q) ns) ≡ true
all_numbers p q m [] e = refl
all_numbers p q m (n ∷ ns) e =
    ap (λ b. b && list_all (is_like (shape.Number p m)) (map (number_choice q) ns)) e
    ∙ all_numbers p q m ns e

texts_like : (ts : List (List ℕ)) (c : Constant) → same_constant (constants.Texts ts) c ≡ true
    → HasMembersLike shape.Text c
texts_like ts (constants.Texts us) e = (map text_choice us, refl, all_texts us)
texts_like ts (constants.Text u) e = cc
texts_like ts (constants.Number m) e = cc
texts_like ts (constants.Day d) e = cc
texts_like ts (constants.Pattern u) e = cc
texts_like ts (constants.Numbers ns) e = cc
texts_like ts (constants.Days ds) e = cc

days_like : (ds : List Day) (c : Constant) → same_constant (constants.Days ds) c ≡ true
    → HasMembersLike shape.Day c
days_like ds (constants.Days fs) e = (map day_choice fs, refl, all_days fs)
days_like ds (constants.Text u) e = cc
days_like ds (constants.Number m) e = cc
days_like ds (constants.Day d) e = cc
days_like ds (constants.Pattern u) e = cc
days_like ds (constants.Texts ts) e = cc
days_like ds (constants.Numbers ns) e = cc

numbers_like : (ns : Numbers) (m : ℕ) (c : Constant)
    → same_constant (constants.Numbers ns) c ≡ true
    → HasMembersLike (shape.Number ns.places m) c
numbers_like ns m (constants.Numbers ms) e = (
  map (number_choice ms.places) ms.counts,
  refl,
  all_numbers ns.places ms.places m ms.counts (both_true (ns.places == ms.places) _ e).0,
)
numbers_like ns m (constants.Text u) e = cc
numbers_like ns m (constants.Number n) e = cc
numbers_like ns m (constants.Day d) e = cc
numbers_like ns m (constants.Pattern u) e = cc
numbers_like ns m (constants.Texts ts) e = cc
numbers_like ns m (constants.Days ds) e = cc

-- ---- at its index

module _ (pool : List Constant) where
  pub number_at : (n : Decimal) → StandsIn pool (constants.Number n)
      → shape_at pool (index_in pool (constants.Number n))
      ≡ Some (shape.Number n.places (unsigned_abs n.count))
  number_at n s = ap (option_and_then shape_in) s.found ∙ number_like n s.there s.is

  pub text_shape_at : (t : List ℕ) → StandsIn pool (constants.Text t)
      → shape_at pool (index_in pool (constants.Text t)) ≡ Some shape.Text
  text_shape_at t s = ap (option_and_then shape_in) s.found ∙ (text_like t s.there s.is).0

  pub day_at : (d : Day) → StandsIn pool (constants.Day d)
      → shape_at pool (index_in pool (constants.Day d)) ≡ Some shape.Day
  day_at d s = ap (option_and_then shape_in) s.found ∙ day_like d s.there s.is

  pub a_key_at : (t : List ℕ) → StandsIn pool (constants.Text t)
      → (u : List ℕ) × (key_at pool (index_in pool (constants.Text t)) ≡ Some u)
  a_key_at t s =
      let k = (text_like t s.there s.is).1 in
      (k.0, ap (option_and_then key_in) s.found ∙ k.1)

  pub a_pattern_at : (t : List ℕ) → StandsIn pool (constants.Pattern t)
      → (u : List ℕ) × (pattern_at pool (index_in pool (constants.Pattern t)) ≡ Some u)
  a_pattern_at t s =
      let k = pattern_like t s.there s.is in
      (k.0, ap (option_and_then pattern_in) s.found ∙ k.1)

  -- the members of a list of the pool are like this shape
  abbrev pub HasMembersAt : Shape → Constant → Type 0
  HasMembersAt s c =
      (ys : List Value) × (members_at pool (index_in pool c) ≡ Some ys)
      × (list_all (is_like s) ys ≡ true)

  members_found : (s : Shape) (c : Constant) (at : StandsIn pool c) → HasMembersLike s at.there
      → HasMembersAt s c
  members_found s c at h = (h.0, ap (option_and_then members_in) at.found ∙ h.1, h.2)

  pub texts_at : (ts : List (List ℕ)) → StandsIn pool (constants.Texts ts)
      → HasMembersAt shape.Text (constants.Texts ts)
  texts_at ts at = members_found shape.Text (constants.Texts ts) at (texts_like ts at.there at.is)

  pub days_at : (ds : List Day) → StandsIn pool (constants.Days ds)
      → HasMembersAt shape.Day (constants.Days ds)
  days_at ds at = members_found shape.Day (constants.Days ds) at (days_like ds at.there at.is)

  pub numbers_at : (ns : Numbers) (m : ℕ) → StandsIn pool (constants.Numbers ns)
      → HasMembersAt (shape.Number ns.places m) (constants.Numbers ns)
  numbers_at ns m at =
      members_found (shape.Number ns.places m) (constants.Numbers ns) at
      (numbers_like ns m at.there at.is)

  -- a list without members has none of another kind
  pub none_at : (s : Shape) (places : ℕ)
      → StandsIn pool (constants.Numbers (record { places = places; counts = [] }))
      → HasMembersAt s (constants.Numbers (record { places = places; counts = [] }))
  none_at s places at =
      members_found s (constants.Numbers (record { places = places; counts = [] })) at
      (by at.there at.is)
    where
      nothing : (q : ℕ) (ns : List ℤ) → pointwise int_eq [] ns ≡ true
          → list_all (is_like s) (map (number_choice q) ns) ≡ true
      nothing q [] e = refl
      nothing q (n ∷ ns) e = cc

      by : (c : Constant)
          → same_constant (constants.Numbers (record { places = places; counts = [] })) c ≡ true
          → HasMembersLike s c
      by (constants.Numbers ms) e = (
        map (number_choice ms.places) ms.counts,
        refl,
        nothing ms.places ms.counts
            (both_true (places == ms.places) (pointwise int_eq [] ms.counts) e).1,
      )
      by (constants.Text u) e = cc
      by (constants.Number n) e = cc
      by (constants.Day d) e = cc
      by (constants.Pattern u) e = cc
      by (constants.Texts ts) e = cc
      by (constants.Days ds) e = cc
