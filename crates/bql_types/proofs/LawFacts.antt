-- Why the laws hold.
use Rattle.std.proofs.Common.{◌≡◌, ℕ, zero, suc, Bool, true, false, ◌&&◌, ◌||◌, ◌==◌, nat_lt}
use Rattle.std.proofs.Common.{List, [], ◌∷◌, ◌++◌, Option, Some, None, Ok, Err, refl}
use Rattle.std.proofs.Common.{sym, ap, ◌∙◌, subst, arith, ◌⊎◌, inl, inr, if◌then◌else◌}
use Rattle.std.proofs.lemmas.Bool.Decides.{nat_tests}
use Rattle.std.specs.List.{IsAmong}
use Rattle.limits.specs.declared.bounds.Bounds.{Bounds}
use Rattle.bql_tree.specs.Tree.{Operation, Tree, node, Trees, trees, no_trees}
use Rattle.query_rows.specs.Rules.{Ruled}
use Rattle.query_rows.specs.declared.shape.Shape.{Shape}
use Rattle.bql_types.specs.Cause.{told, is_before, number_of}
use Rattle.bql_types.specs.Laws.{LeastIsTold, ShapesAreFound, ShapesHaveNoCauses}
use Rattle.bql_types.specs.Shaped.{shape_of, shapes_of, shape_causes, all_shape_causes, ruled}
use Rattle.bql_types.specs.Shaped.{given}
use Rattle.bql_types.specs.Shaped.{rule, misfit_at, is_equation, is_null, operand, beside}
use Rattle.bql_types.specs.declared.cause.TypeCause.{TypeCause}

-- ---- the order of causes

order_kept : (p m q n r k : ℕ) → (nat_lt p q || (p == q && nat_lt m n)) ≡ false
    → (nat_lt q r || (q == r && nat_lt n k)) ≡ false
    → (nat_lt p r || (p == r && nat_lt m k)) ≡ false
order_kept p m q n r k h g = grind (arith, nat_tests, h, g)

order_turned : (p m q n : ℕ) → (nat_lt p q || (p == q && nat_lt m n)) ≡ true
    → (nat_lt q p || (q == p && nat_lt n m)) ≡ false
order_turned p m q n h = grind (arith, nat_tests, h)

order_same : (p m : ℕ) → (nat_lt p p || (p == p && nat_lt m m)) ≡ false
order_same p m = grind (arith, nat_tests)

kept : (a b c : TypeCause) → is_before a b ≡ false → is_before b c ≡ false → is_before a c ≡ false
kept a b c h g =
    order_kept a.place (number_of a.kind) b.place (number_of b.kind) c.place (number_of c.kind) h g

turned : (a b : TypeCause) → is_before a b ≡ true → is_before b a ≡ false
turned a b h = order_turned a.place (number_of a.kind) b.place (number_of b.kind) h

same : (a : TypeCause) → is_before a a ≡ false
same a = order_same a.place (number_of a.kind)

-- ---- the least cause

split : {A : Type 0} (x : A) (xs : List A) (v : A) → IsAmong (x ∷ xs) v → (v ≡ x) ⊎ IsAmong xs v
split x xs v (zero, (b, e)) = inl e
split x xs v (suc i, (b, e)) = inr (i, (omega (arith, b), e))

first : {A : Type 0} (x : A) (xs : List A) → IsAmong (x ∷ xs) x
first x xs = (zero, (omega arith, refl))

behind : {A : Type 0} (x : A) (xs : List A) (v : A) → IsAmong xs v → IsAmong (x ∷ xs) v
behind x xs v (i, (b, e)) = (suc i, (omega (arith, b), e))

-- the least of what was found before and of some causes
record IsLeastFrom (found : Option TypeCause) (cs : List TypeCause) (c : TypeCause) : Type 0 where
  pub among : (found ≡ Some c) ⊎ IsAmong cs c
  pub before : (a : TypeCause) → found ≡ Some a → is_before a c ≡ false
  pub least : (d : TypeCause) → IsAmong cs d → is_before d c ≡ false

some_is : (a b : TypeCause) → Some a ≡ Some b → a ≡ b
some_is a b e = cc

or_head : (x c : TypeCause) (cs : List TypeCause) → (Some x ≡ Some c) ⊎ IsAmong cs c → IsAmong (x ∷ cs) c
or_head x c cs (inl e) = subst (λ z. IsAmong (x ∷ cs) z) (some_is x c e) (first x cs)
or_head x c cs (inr m) = behind x cs c m

least_by : (x c : TypeCause) (cs : List TypeCause) → is_before x c ≡ false
    → ((d : TypeCause) → IsAmong cs d → is_before d c ≡ false) → (d : TypeCause) → (d ≡ x) ⊎ IsAmong cs d
    → is_before d c ≡ false
least_by x c cs h k d (inl e) = ap (λ z. is_before z c) e ∙ h
least_by x c cs h k d (inr m) = k d m

from_none : (x c : TypeCause) (cs : List TypeCause) → IsLeastFrom (Some x) cs c
    → IsLeastFrom None (x ∷ cs) c
from_none x c cs h = record {
  among = inr (or_head x c cs h.among);
  before = λ a e. absurd (not_some a e);
  least = λ d m. least_by x c cs (h.before x refl) h.least d (split x cs d m);
}
  where
    not_some : (a : TypeCause) → None ≡ Some a → ⊥
    not_some a e = cc

keep_or : (a c : TypeCause) (x : TypeCause) (cs : List TypeCause) → (Some a ≡ Some c) ⊎ IsAmong cs c
    → (Some a ≡ Some c) ⊎ IsAmong (x ∷ cs) c
keep_or a c x cs (inl e) = inl e
keep_or a c x cs (inr m) = inr (behind x cs c m)

from_some : (is : Bool) (a x c : TypeCause) (cs : List TypeCause) → is_before x a ≡ is
    → told (if is then Some x else Some a) cs ≡ Some c
    → (told (Some x) cs ≡ Some c → IsLeastFrom (Some x) cs c)
    → (told (Some a) cs ≡ Some c → IsLeastFrom (Some a) cs c) → IsLeastFrom (Some a) (x ∷ cs) c
from_some true a x c cs is e hx ha =
    let h = hx e in
    let le : is_before a c ≡ false = kept a x c (turned x a is) (h.before x refl) in
    record {
      among = inr (or_head x c cs h.among);
      before = λ b s. ap (λ z. is_before z c) (sym (some_is a b s)) ∙ le;
      least = λ d m. least_by x c cs (h.before x refl) h.least d (split x cs d m);
    }
from_some false a x c cs is e hx ha =
    let h = ha e in
    let le : is_before x c ≡ false = kept x a c is (h.before a refl) in
    record {
      among = keep_or a c x cs h.among;
      before = h.before;
      least = λ d m. least_by x c cs le h.least d (split x cs d m);
    }

none_among : (d : TypeCause) → IsAmong [] d → ⊥
none_among d (i, (b, e)) = omega (arith, b)

told_least : (found : Option TypeCause) (cs : List TypeCause) (c : TypeCause) → told found cs ≡ Some c
    → IsLeastFrom found cs c
told_least found [] c e = record {
  among = inl e;
  before = λ a s. ap (λ z. is_before z c) (some_is a c (sym s ∙ e)) ∙ same c;
  least = λ d m. absurd (none_among d m);
}
told_least None (x ∷ cs) c e = from_none x c cs (told_least (Some x) cs c e)
told_least (Some a) (x ∷ cs) c e =
    from_some (is_before x a) a x c cs refl e (told_least (Some x) cs c)
    (told_least (Some a) cs c)

least_among : (c : TypeCause) (cs : List TypeCause) → (None ≡ Some c) ⊎ IsAmong cs c → IsAmong cs c
least_among c cs (inl e) = absurd cc
least_among c cs (inr m) = m

pub least_is_told : LeastIsTold
least_is_told cs c e =
    let h = told_least None cs c e in
    record { among = least_among c cs h.among; least = h.least }

-- ---- shapes and causes

pub no_more : {A : Type 0} (xs ys : List A) → xs ++ ys ≡ [] → (xs ≡ []) × (ys ≡ [])
no_more [] ys e = (refl, e)
no_more (x ∷ xs) ys e = absurd cc

has_rule : (at : ℕ) (b : Bounds) (op : Operation) (ss : List Shape) (r : Ruled)
    → rule b op ss ≡ r → misfit_at at (Some r) ≡ [] → (s : Shape) × (given (Some r) ≡ Some s)
has_rule at b op ss (Ok s) is e = (s, refl)
has_rule at b op ss (Err m) is e = absurd cc

found_by : (at : ℕ) (b : Bounds) (op : Operation) (o : Option (List Shape)) (ss : List Shape)
    → o ≡ Some ss → misfit_at at (ruled b op o) ≡ [] → (s : Shape) × (given (ruled b op o) ≡ Some s)
found_by at b op (Some ts) ss is e = has_rule at b op ts (rule b op ts) refl e
found_by at b op None ss is e = absurd cc

with_more : (skips : Bool) (o : Option Shape) (q : Option (List Shape)) (s : Shape)
    (ss : List Shape) → o ≡ Some s → q ≡ Some ss
    → (ts : List Shape) × (beside (operand skips o) q ≡ Some ts)
with_more true o q s ss e h = (ss, h)
with_more false (Some t) (Some ts) s ss e h = (t ∷ ts, refl)
with_more false (Some t) None s ss e h = absurd cc
with_more false None q s ss e h = absurd cc

one_shape : (skips : Bool) (b : Bounds) (t : Tree ℕ) (q : Option (List Shape)) (ss : List Shape)
    → q ≡ Some ss → (if skips then [] else shape_causes b t) ≡ []
    → (shape_causes b t ≡ [] → (s : Shape) × (shape_of b t ≡ Some s))
    → (us : List Shape) × (beside (operand skips (shape_of b t)) q ≡ Some us)
one_shape true b t q ss h e k = (ss, h)
one_shape false b t q ss h e k =
    let p = k e in with_more false (shape_of b t) q p.0 ss p.1 h

mutual
  shapes : (b : Bounds) (t : Tree ℕ) → shape_causes b t ≡ []
      → (s : Shape) × (shape_of b t ≡ Some s)
  shapes b (node at op parts) e =
      let h = no_more (all_shape_causes b (is_equation op) parts) _ e in
      let p = all_shapes b (is_equation op) parts h.0 in
      found_by at b op (shapes_of b (is_equation op) parts) p.0 p.1 h.1

  all_shapes : (b : Bounds) (eq : Bool) (ts : Trees ℕ) → all_shape_causes b eq ts ≡ []
      → (ss : List Shape) × (shapes_of b eq ts ≡ Some ss)
  all_shapes b eq no_trees e = ([], refl)
  all_shapes b eq (trees t ts) e =
      let h = no_more (if eq && is_null t then [] else shape_causes b t) _ e in
      let p = all_shapes b eq ts h.1 in
      one_shape (eq && is_null t) b t (shapes_of b eq ts) p.0 p.1 h.0 (shapes b t)

pub shapes_are_found : ShapesAreFound
shapes_are_found b t e = shapes b t e

given_ok : (at : ℕ) (b : Bounds) (op : Operation) (o : Option (List Shape)) (s : Shape)
    → given (ruled b op o) ≡ Some s
    → (ss : List Shape) × (o ≡ Some ss) × (misfit_at at (ruled b op o) ≡ [])
given_ok at b op None s e = absurd cc
given_ok at b op (Some ss) s e = (ss, refl, no_misfit at (rule b op ss) s e)
  where
    no_misfit : (at : ℕ) (r : Ruled) (s : Shape) → given (Some r) ≡ Some s
        → misfit_at at (Some r) ≡ []
    no_misfit at (Ok t) s e = refl
    no_misfit at (Err m) s e = absurd cc

beside_ok : (skips : Bool) (o : Option Shape) (q : Option (List Shape)) (us : List Shape)
    → beside (operand skips o) q ≡ Some us
    → (ss : List Shape) × (q ≡ Some ss) × ((skips ≡ false) → (s : Shape) × (o ≡ Some s))
beside_ok true o q us e = (us, e, λ f. absurd cc)
beside_ok false (Some s) (Some ss) us e = (ss, refl, λ f. (s, refl))
beside_ok false (Some s) None us e = absurd cc
beside_ok false None q us e = absurd cc

both_none : {A : Type 0} (xs ys : List A) → xs ≡ [] → ys ≡ [] → xs ++ ys ≡ []
both_none xs ys e h = ap (λ z. z ++ ys) e ∙ h

skipped : (skips : Bool) (cs : List TypeCause) → (skips ≡ false → cs ≡ [])
    → (if skips then [] else cs) ≡ []
skipped true cs h = refl
skipped false cs h = h refl

mutual
  no_causes : (b : Bounds) (t : Tree ℕ) (s : Shape) → shape_of b t ≡ Some s
      → shape_causes b t ≡ []
  no_causes b (node at op parts) s e =
      let h = given_ok at b op (shapes_of b (is_equation op) parts) s e in
      both_none (all_shape_causes b (is_equation op) parts) _
      (none_of_all b (is_equation op) parts h.0 h.1) h.2

  none_of_all : (b : Bounds) (eq : Bool) (ts : Trees ℕ) (ss : List Shape)
      → shapes_of b eq ts ≡ Some ss → all_shape_causes b eq ts ≡ []
  none_of_all b eq no_trees ss e = refl
  none_of_all b eq (trees t ts) ss e =
      let h = beside_ok (eq && is_null t) (shape_of b t) (shapes_of b eq ts) ss e in
      both_none (if eq && is_null t then [] else shape_causes b t) (all_shape_causes b eq ts)
      (skipped (eq && is_null t) (shape_causes b t)
      (λ f. let p = h.2 f in no_causes b t p.0 p.1))
      (none_of_all b eq ts h.0 h.1)

pub shapes_have_no_causes : ShapesHaveNoCauses
shapes_have_no_causes b t s e = no_causes b t s e
