-- The members of a list that has a shape can stand in the pool.
use Rattle.std.proofs.Common.{◌*ℤ◌}
use Rattle.std.proofs.Common.{◌≡◌, ◌≤◌, ◌<◌, ◌-◌, ◌*◌, ◌^◌, ℕ, ℤ, pos, Bool, true, false, ◌&&◌, List}
use Rattle.std.proofs.Common.{[], ◌∷◌, Option, Some, None, Ok, Err, refl, sym, ap, subst, ◌∙◌}
use Rattle.std.proofs.Common.{◌++◌, length, length-append}
use Rattle.std.proofs.Common.{arith, max, fold, if◌then◌else◌, nat_le, nat_lt}
use Rattle.std.proofs.lemmas.Bool.Decides.{nat_tests}
use Rattle.std.proofs.lemmas.Grind.{common_steps}
use Rattle.std.proofs.lemmas.Int.{unsigned_abs-mul}
use Rattle.std.specs.Int.RustNames.{unsigned_abs}
use Rattle.std.specs.List.{AllByRecursion, list_all}
use Rattle.std.specs.Option.{is_some}
use Rattle.std.specs.Prelude.{IsTrue}
use Rattle.std.specs.Result.{is_ok}
use Rattle.limits.specs.declared.bounds.Bounds.{Bounds}
use Rattle.limits.specs.declared.counts.TheConstants.{COUNT_BOUND, LARGEST_QUERY, MOST_PLACES}
use Rattle.bql_parser.specs.Small.{IsLiteral, AreLiterals, AreSmallTrees, count}
use Rattle.bql_rules.specs.Rules.{are_alike, greatest_places, is_held_with, one_of, places_of}
use Rattle.bql_tree.specs.Tree.{leaf_of, call_of, Tree, node, Trees, no_trees, trees}
use Rattle.bql_tree.specs.declared.function.Function.TheVariants as function
use Rattle.bql_tree.specs.declared.tree.Leaf.{Leaf}
use Rattle.bql_tree.specs.declared.tree.Leaf.TheVariants as leaf
use Rattle.bql_types.specs.Shaped.{beside, given, operand, ruled, shape_of, shapes_of}
use Rattle.query_code.specs.QueryFile.{is_count}
use Rattle.query_rows.specs.declared.shape.Misfit.TheVariants as misfit
use Rattle.query_rows.specs.declared.shape.Shape.{Shape}
use Rattle.query_rows.specs.declared.shape.Shape.TheVariants as shape
use Rattle.query_terms.specs.declared.decimal.Decimal.{Decimal}
use Rattle.bql_lowering.specs.Listed.{HasShape, IsHeldWith, AreHeldWith, IsKind, IsListed}
use Rattle.bql_lowering.specs.Kind.{first_kind, first_leaf}
use Rattle.bql_lowering.specs.Lowered.{count_in, day_in, each_in, list_places, most_places}
use Rattle.bql_lowering.specs.Lowered.{places_in, text_in}
use Rattle.bql_lowering.specs.declared.kind.ListKind.TheVariants as kinds

first_true : (a b : Bool) → (a && b) ≡ true → a ≡ true
first_true true b e = refl
first_true false b e = absurd cc

second_true : (a b : Bool) → (a && b) ≡ true → b ≡ true
second_true true b e = e
second_true false b e = absurd cc

-- ---- the shape of a literal

abbrev decimals : Tree ℕ → ℕ
decimals (node at (leaf_of (leaf.Number n)) parts) = n.places
decimals t = 0

abbrev leaf_shaped : Bounds → Leaf → Option (List Shape) → Option Shape
leaf_shaped b l ss = given (ruled b (leaf_of l) ss)

-- a number has the shape of its own decimals and count
number_shape : (b : Bounds) (n : Decimal) (ss : Option (List Shape)) (s : Shape)
    → leaf_shaped b (leaf.Number n) ss ≡ Some s → s ≡ shape.Number n.places (unsigned_abs n.count)
number_shape b n (Some []) s e = cc
number_shape b n (Some (t ∷ ts)) s e = absurd cc
number_shape b n None s e = absurd cc

-- ---- the shape of one member

other_places : (b : Bounds) (l : Leaf) (ss : Option (List Shape)) (s : Shape)
    → (u : Shape) → places_of u ≡ 0 → leaf_shaped b l (Some []) ≡ Some u
    → leaf_shaped b l ss ≡ Some s → places_of s ≡ 0
other_places b l (Some []) s u z h e = let same : u ≡ s = cc in subst (λ v. places_of v ≡ 0) same z
other_places b l (Some (t ∷ ts)) s u z h e = absurd cc
other_places b l None s u z h e = absurd cc

none_shaped : (b : Bounds) (l : Leaf) (ss : Option (List Shape)) (s : Shape)
    → leaf_shaped b l (Some []) ≡ None → leaf_shaped b l ss ≡ Some s → ⊥
none_shaped b l (Some []) s h e = absurd cc
none_shaped b l (Some (t ∷ ts)) s h e = absurd cc
none_shaped b l None s h e = absurd cc

member_places : (b : Bounds) (t : Tree ℕ) (s : Shape) → IsLiteral t → shape_of b t ≡ Some s
    → places_of s ≡ decimals t
member_places b (node at (leaf_of (leaf.Number n)) parts) s h e =
    ap places_of (number_shape b n (shapes_of b false parts) s e)
member_places b (node at (leaf_of (leaf.Text t)) parts) s h e =
    other_places b (leaf.Text t) (shapes_of b false parts) s shape.Text refl refl e
member_places b (node at (leaf_of (leaf.Day d)) parts) s h e =
    other_places b (leaf.Day d) (shapes_of b false parts) s shape.Day refl refl e
member_places b (node at (leaf_of (leaf.Truth v)) parts) s h e =
    other_places b (leaf.Truth v) (shapes_of b false parts) s shape.Truth refl refl e
member_places b (node at (leaf_of leaf.Null) parts) s h e =
    absurd (none_shaped b leaf.Null (shapes_of b false parts) s refl e)
member_places b (node at (leaf_of (leaf.TooWide ds)) parts) s h e =
    absurd (none_shaped b (leaf.TooWide ds) (shapes_of b false parts) s refl e)
member_places b (node at op parts) s h e = absurd h

-- ---- the greatest count of decimals

with_decimals : (p : ℕ) (t : Tree ℕ) (ts : Trees ℕ)
    → most_places p (trees t ts) ≡ most_places (max p (decimals t)) ts
with_decimals p (node at (leaf_of (leaf.Number n)) parts) ts = refl
with_decimals p (node at (leaf_of l) parts) ts = ap (λ k. most_places k ts) (omega arith)
with_decimals p (node at op parts) ts = ap (λ k. most_places k ts) (omega arith)

abbrev greatest : ℕ → List Shape → ℕ
greatest p ss = fold (λ most t. max most (places_of t)) p ss

-- the shapes of the first member and of the others
record Split (b : Bounds) (t : Tree ℕ) (ts : Trees ℕ) (ss : List Shape) : Type 0 where
  pub first : Shape
  pub others : List Shape
  pub is : ss ≡ first ∷ others
  pub one : shape_of b t ≡ Some first
  pub rest : shapes_of b false ts ≡ Some others

split_by : (b : Bounds) (t : Tree ℕ) (ts : Trees ℕ) (ss : List Shape) (s : Option Shape)
    (os : Option (List Shape)) → shape_of b t ≡ s → shapes_of b false ts ≡ os
    → beside (operand false s) os ≡ Some ss → Split b t ts ss
split_by b t ts ss (Some s) (Some os) hs ho e = record {
  first = s;
  others = os;
  is = cc;
  one = hs;
  rest = ho;
}
split_by b t ts ss (Some s) None hs ho e = absurd cc
split_by b t ts ss None os hs ho e = absurd cc

split : (b : Bounds) (t : Tree ℕ) (ts : Trees ℕ) (ss : List Shape)
    → shapes_of b false (trees t ts) ≡ Some ss → Split b t ts ss
split b t ts ss e =
    split_by b t ts ss (shape_of b t) (shapes_of b false ts) refl refl e

are_greatest : (b : Bounds) (p : ℕ) (ts : Trees ℕ) (ss : List Shape) → AreLiterals ts
    → shapes_of b false ts ≡ Some ss → most_places p ts ≡ greatest p ss
are_greatest b p no_trees ss h e = let none : [] ≡ ss = cc in ap (greatest p) none
are_greatest b p (trees t ts) ss h e =
    let s = split b t ts ss e in
    with_decimals p t ts
    ∙ ap (λ k. most_places (max p k) ts) (sym (member_places b t s.first h.0 s.one))
    ∙ are_greatest b (max p (places_of s.first)) ts s.others h.1 s.rest
    ∙ sym (ap (greatest p) s.is)

-- ---- numbers that are held

narrow_by : (g k : ℕ) (low held : Bool)
    → is_ok (if low then (if held then Ok (shape.Number g k) else Err misfit.TooWide) else Err misfit.Kind) ≡ true
    → (low ≡ true) × (held ≡ true)
narrow_by g k true true e = (refl, refl)
narrow_by g k true false e = absurd cc
narrow_by g k false held e = absurd cc

record IsHeldNumber (g p m : ℕ) : Type 0 where
  pub more : p ≤ g
  pub narrow : g ≤ MOST_PLACES
  pub held : m * 10 ^ (g - p) < COUNT_BOUND

held_number : (g p m : ℕ) → is_held_with g (shape.Number p m) ≡ true → IsHeldNumber g p m
held_number g p m e =
    let k = m * 10 ^ (g - p) in
    let h = narrow_by g k (nat_le p g) (nat_le g MOST_PLACES && nat_lt k COUNT_BOUND) e in
    let low = h.0 in
    let narrow = first_true (nat_le g MOST_PLACES) (nat_lt k COUNT_BOUND) h.1 in
    let most = second_true (nat_le g MOST_PLACES) (nat_lt k COUNT_BOUND) h.1 in
    record {
      more = grind (arith, nat_tests, low);
      narrow = grind (arith, nat_tests, narrow);
      held = grind (arith, nat_tests, most);
    }

count_held : (g p : ℕ) (z : ℤ) → unsigned_abs z * 10 ^ (g - p) < COUNT_BOUND
    → IsTrue (is_count (z *ℤ pos (10 ^ (g - p))))
count_held g p z h =
    let e = unsigned_abs-mul z (pos (10 ^ (g - p))) in
    grind (arith, nat_tests, common_steps, h, e)

member_held : (b : Bounds) (g : ℕ) (t : Tree ℕ) (s : Shape) → shape_of b t ≡ Some s
    → is_held_with g s ≡ true → IsHeldWith g t
member_held b g (node at (leaf_of (leaf.Number n)) parts) s e h =
    let is = number_shape b n (shapes_of b false parts) s e in
    let k = held_number g n.places (unsigned_abs n.count)
    (subst (λ v. is_held_with g v ≡ true) is h) in
    (k.more, count_held g n.places n.count k.held)
member_held b g (node at (leaf_of l) parts) s e h = tt
member_held b g (node at op parts) s e h = tt

all_held : (b : Bounds) (g : ℕ) (ts : Trees ℕ) (ss : List Shape) → shapes_of b false ts ≡ Some ss
    → list_all (is_held_with g) ss ≡ true → AreHeldWith g ts
all_held b g no_trees ss e h = tt
all_held b g (trees t ts) ss e h =
    let s = split b t ts ss e in
    let k = subst (λ v. list_all (is_held_with g) v ≡ true) s.is h in (
      member_held b g t s.first s.one
          (first_true (is_held_with g s.first) (list_all (is_held_with g) s.others) k),
      all_held b g ts s.others s.rest
          (second_true (is_held_with g s.first) (list_all (is_held_with g) s.others) k),
    )

-- ---- the kind of the first

abbrev IsRanked : Shape → Type 0
IsRanked shape.Text = Unit {0}
IsRanked shape.Day = Unit {0}
IsRanked (shape.Number p m) = Unit {0}
IsRanked s = ⊥

alike_ranked : (s u : Shape) → are_alike s u ≡ true → IsRanked u
alike_ranked shape.Text shape.Text e = tt
alike_ranked shape.Day shape.Day e = tt
alike_ranked (shape.Number p m) (shape.Number q n) e = tt
alike_ranked s u e = absurd cc

truth_shape : (b : Bounds) (v : Bool) (ss : Option (List Shape)) (s : Shape)
    → leaf_shaped b (leaf.Truth v) ss ≡ Some s → s ≡ shape.Truth
truth_shape b v (Some []) s e = cc
truth_shape b v (Some (t ∷ ts)) s e = absurd cc
truth_shape b v None s e = absurd cc

kind_of_member : (b : Bounds) (t : Tree ℕ) (ts : Trees ℕ) (s : Shape) → IsLiteral t
    → shape_of b t ≡ Some s → IsRanked s → IsKind (first_leaf (trees t ts))
kind_of_member b (node at (leaf_of (leaf.Number n)) parts) ts s h e r = tt
kind_of_member b (node at (leaf_of (leaf.Text t)) parts) ts s h e r = tt
kind_of_member b (node at (leaf_of (leaf.Day d)) parts) ts s h e r = tt
kind_of_member b (node at (leaf_of (leaf.Truth v)) parts) ts s h e r =
    absurd (subst IsRanked (truth_shape b v (shapes_of b false parts) s e) r)
kind_of_member b (node at (leaf_of leaf.Null) parts) ts s h e r =
    absurd (none_shaped b leaf.Null (shapes_of b false parts) s refl e)
kind_of_member b (node at (leaf_of (leaf.TooWide ds)) parts) ts s h e r =
    absurd (none_shaped b (leaf.TooWide ds) (shapes_of b false parts) s refl e)
kind_of_member b (node at op parts) ts s h e r = absurd h

kind_of_first : (b : Bounds) (s : Shape) (ts : Trees ℕ) (ss : List Shape) → AreLiterals ts
    → 1 ≤ count ts → shapes_of b false ts ≡ Some ss → list_all (are_alike s) ss ≡ true
    → IsKind (first_leaf ts)
kind_of_first b s no_trees ss h some e alike = absurd (omega (arith, some))
kind_of_first b s (trees t ts) ss h some e alike =
    let p = split b t ts ss e in
    let k = subst (λ v. list_all (are_alike s) v ≡ true) p.is alike in
    kind_of_member b t ts p.first h.0 p.one
    (alike_ranked s p.first (first_true (are_alike s p.first) (list_all (are_alike s) p.others) k))

-- ---- lists without numbers

not_alike : (s : Shape) (p m : ℕ) → places_in (Some s) ≡ None
    → are_alike s (shape.Number p m) ≡ true → ⊥
not_alike (shape.Number q n) p m e h = absurd cc
not_alike s p m e h = absurd cc

unlike_held : (b : Bounds) (s : Shape) (g : ℕ) (t : Tree ℕ) (u : Shape)
    → places_in (Some s) ≡ None → shape_of b t ≡ Some u → are_alike s u ≡ true
    → IsHeldWith g t
unlike_held b s g (node at (leaf_of (leaf.Number n)) parts) u none e h =
    let is = number_shape b n (shapes_of b false parts) u e in
    absurd (not_alike s n.places (unsigned_abs n.count) none
    (subst (λ v. are_alike s v ≡ true) is h))
unlike_held b s g (node at (leaf_of l) parts) u none e h = tt
unlike_held b s g (node at op parts) u none e h = tt

no_numbers : (b : Bounds) (s : Shape) (g : ℕ) (ts : Trees ℕ) (ss : List Shape)
    → places_in (Some s) ≡ None → shapes_of b false ts ≡ Some ss
    → list_all (are_alike s) ss ≡ true → AreHeldWith g ts
no_numbers b s g no_trees ss none e h = tt
no_numbers b s g (trees t ts) ss none e h =
    let p = split b t ts ss e in
    let k = subst (λ v. list_all (are_alike s) v ≡ true) p.is h in (
      unlike_held b s g t p.first none p.one
          (first_true (are_alike s p.first) (list_all (are_alike s) p.others) k),
      no_numbers b s g ts p.others none p.rest
          (second_true (are_alike s p.first) (list_all (are_alike s) p.others) k),
    )

-- ---- whole lists

abbrev IsOneOf : Shape → List Shape → Type 0
IsOneOf s ss =
    (are_alike s s ≡ true) × (list_all (are_alike s) ss ≡ true)
    × (list_all (is_held_with (greatest_places s ss)) (s ∷ ss) ≡ true)

ok_by : (a h : Bool)
    → is_some (given (Some (if a then (if h then Ok shape.Truth else Err misfit.TooWide)
    else Err misfit.Kind))) ≡ true → (a ≡ true) × (h ≡ true)
ok_by true true e = (refl, refl)
ok_by true false e = absurd cc
ok_by false h e = absurd cc

is_one_of : (s : Shape) (ss : List Shape) → is_some (given (Some (one_of s ss))) ≡ true
    → IsOneOf s ss
is_one_of s ss e =
    let a = are_alike s s in
    let all = list_all (are_alike s) ss in
    let h = ok_by (a && all) (list_all (is_held_with (greatest_places s ss)) (s ∷ ss)) e in
    (first_true a all h.0, second_true a all h.0, h.1)

abbrev AreMembers : Trees ℕ → Type 0
AreMembers ts =
    (1 ≤ count ts) × (count ts ≤ LARGEST_QUERY) × AreSmallTrees ts × AreLiterals ts

by_places : (b : Bounds) (s : Shape) (ts : Trees ℕ) (ss : List Shape) (p : Option ℕ)
    → places_in (Some s) ≡ p → shapes_of b false ts ≡ Some ss → IsOneOf s ss → AreMembers ts
    → IsListed (list_places p ts) ts
by_places b s ts ss None none e h are = record {
  kind = kind_of_first b s ts ss are.3 are.0 e h.1;
  few = are.1;
  small = are.2;
  narrow = omega arith;
  held = no_numbers b s 0 ts ss none e h.1;
}
by_places b (shape.Number q m) ts ss (Some p) some e h are =
    let g = greatest q ss in
    let one = first_true (is_held_with g (shape.Number q m)) (list_all (is_held_with g) ss) h.2 in
    let all = second_true (is_held_with g (shape.Number q m)) (list_all (is_held_with g) ss) h.2 in
    let same : q ≡ p = cc in
    let most : g ≡ most_places p ts =
    sym (are_greatest b q ts ss are.3 e) ∙ ap (λ k. most_places k ts) same in
    subst (λ k. IsListed k ts) most record {
      kind = kind_of_first b (shape.Number q m) ts ss are.3 are.0 e h.1;
      few = are.1;
      small = are.2;
      narrow = (held_number g q m one).narrow;
      held = all_held b g ts ss e all;
    }
by_places b s ts ss (Some p) some e h are = absurd cc

listed_by : (b : Bounds) (ts : Trees ℕ) (s : Option Shape) (ss : Option (List Shape))
    → shapes_of b false ts ≡ ss
    → is_some (given (ruled b (call_of function.OneOf) (beside (operand false s) ss))) ≡ true
    → AreMembers ts → IsListed (list_places (places_in s) ts) ts
listed_by b ts (Some s) (Some ss) hs e are =
    by_places b s ts ss (places_in (Some s)) refl hs (is_one_of s ss e) are
listed_by b ts (Some s) None hs e are = absurd cc
listed_by b ts None ss hs e are = absurd cc

pub is_listed : (b : Bounds) (at : ℕ) (t : Tree ℕ) (ts : Trees ℕ)
    → HasShape b (node at (call_of function.OneOf) (trees t ts)) → AreMembers ts
    → IsListed (list_places (places_in (shape_of b t)) ts) ts
is_listed b at t ts e are =
    listed_by b ts (shape_of b t) (shapes_of b false ts) refl e are

-- ---- how many

at_most : {A : Type 0} (f : Tree ℕ → List A) → ((t : Tree ℕ) → length (f t) ≤ 1) → (ts : Trees ℕ)
    → length (each_in f ts) ≤ count ts
at_most f one no_trees = omega arith
at_most f one (trees t ts) =
    let l = length-append (f t) (each_in f ts) in
    let h = one t in
    let k = at_most f one ts in
    omega (arith, l, h, k)

one_text : (t : Tree ℕ) → length (text_in t) ≤ 1
one_text (node at (leaf_of (leaf.Text t)) parts) = omega arith
one_text (node at (leaf_of l) parts) = omega arith
one_text (node at op parts) = omega arith

one_day : (t : Tree ℕ) → length (day_in t) ≤ 1
one_day (node at (leaf_of (leaf.Day d)) parts) = omega arith
one_day (node at (leaf_of l) parts) = omega arith
one_day (node at op parts) = omega arith

one_count : (p : ℕ) (t : Tree ℕ) → length (count_in p t) ≤ 1
one_count p (node at (leaf_of (leaf.Number n)) parts) = omega arith
one_count p (node at (leaf_of l) parts) = omega arith
one_count p (node at op parts) = omega arith

pub few_texts : (p : ℕ) (ts : Trees ℕ) → IsListed p ts
    → length (each_in text_in ts) ≤ LARGEST_QUERY
few_texts p ts h = let k = at_most text_in one_text ts in omega (arith, k, h.few)

pub few_days : (p : ℕ) (ts : Trees ℕ) → IsListed p ts → length (each_in day_in ts) ≤ LARGEST_QUERY
few_days p ts h = let k = at_most day_in one_day ts in omega (arith, k, h.few)

pub few_counts : (p : ℕ) (ts : Trees ℕ) → IsListed p ts
    → length (each_in (count_in p) ts) ≤ LARGEST_QUERY
few_counts p ts h = let k = at_most (count_in p) (one_count p) ts in omega (arith, k, h.few)

pub some_texts : (ts : Trees ℕ) → first_kind ts ≡ kinds.Texts
    → 1 ≤ length (each_in text_in ts)
some_texts (trees (node at (leaf_of (leaf.Text t)) parts) ts) e = omega arith
some_texts (trees (node at (leaf_of l) parts) ts) e = absurd cc
some_texts (trees (node at op parts) ts) e = absurd cc
some_texts no_trees e = absurd cc

pub some_days : (ts : Trees ℕ) → first_kind ts ≡ kinds.Days → 1 ≤ length (each_in day_in ts)
some_days (trees (node at (leaf_of (leaf.Day d)) parts) ts) e = omega arith
some_days (trees (node at (leaf_of l) parts) ts) e = absurd cc
some_days (trees (node at op parts) ts) e = absurd cc
some_days no_trees e = absurd cc

some_by : (p : ℕ) (ts : Trees ℕ) → IsKind (first_leaf ts) → first_kind ts ≡ kinds.Numbers
    → 1 ≤ length (each_in (count_in p) ts)
some_by p (trees (node at (leaf_of (leaf.Number n)) parts) ts) k e = omega arith
some_by p (trees (node at (leaf_of (leaf.Text t)) parts) ts) k e = absurd cc
some_by p (trees (node at (leaf_of (leaf.Day d)) parts) ts) k e = absurd cc
some_by p (trees (node at (leaf_of l) parts) ts) k e = absurd k
some_by p (trees (node at op parts) ts) k e = absurd k
some_by p no_trees k e = absurd k

pub some_counts : (p : ℕ) (ts : Trees ℕ) → IsListed p ts → first_kind ts ≡ kinds.Numbers
    → 1 ≤ length (each_in (count_in p) ts)
some_counts p ts h e = some_by p ts h.kind e

abbrev AreCounts : List ℤ → Type 0
AreCounts zs = AllByRecursion (λ c. IsTrue (is_count c)) zs

counts_joined : (xs ys : List ℤ) → AreCounts xs → AreCounts ys → AreCounts (xs ++ ys)
counts_joined [] ys h k = k
counts_joined (x ∷ xs) ys h k = (h.0, counts_joined xs ys h.1 k)

count_of : (p : ℕ) (t : Tree ℕ) → IsHeldWith p t → AreCounts (count_in p t)
count_of p (node at (leaf_of (leaf.Number n)) parts) h = (h.1, tt)
count_of p (node at (leaf_of l) parts) h = tt
count_of p (node at op parts) h = tt

are_counts : (p : ℕ) (ts : Trees ℕ) → AreHeldWith p ts → AreCounts (each_in (count_in p) ts)
are_counts p no_trees h = tt
are_counts p (trees t ts) h =
    counts_joined (count_in p t) (each_in (count_in p) ts) (count_of p t h.0) (are_counts p ts h.1)

pub all_counts : (p : ℕ) (ts : Trees ℕ) → IsListed p ts → AreCounts (each_in (count_in p) ts)
all_counts p ts h = are_counts p ts h.held
