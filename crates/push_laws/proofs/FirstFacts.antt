-- Of each name the first push that a place is given is the same, whichever way pushes are told: the
-- latest that is open there, where a pop behind takes it back.
use Rattle.std.proofs.Common.{◌≡◌, ℕ, zero, suc, ◌-◌, ◌<◌, ◌≤◌, ◌&&◌, ◌||◌, Bool, true, false}
use Rattle.std.proofs.Common.{cond, nat_le, nat_lt, List, [], ◌∷◌, ◌++◌, length, take, Option, Some}
use Rattle.std.proofs.Common.{None, is_some}
use Rattle.std.proofs.Common.{refl, sym, ◌∙◌, ap, subst, arith}
use Rattle.std.proofs.lemmas.Bool.Decides.{nat_tests}
use Rattle.std.proofs.lemmas.List.{append-nil}
use Rattle.std.proofs.lemmas.List.Folds.{find-append}
use Rattle.std.specs.List.{AllByRecursion, list_any}
use Rattle.std.specs.Option.{option_or}
use Rattle.std.specs.Prelude.{find}
use Rattle.bean_directives.specs.declared.undated.Bound.{Bound}
use Rattle.bean_directives.specs.declared.undated.Bound.TheVariants.{Push, Pop}
use Rattle.bean_directives.specs.declared.undated.Pushed.{Pushed}
use Rattle.bean_directives.specs.declared.undated.PushName.{PushName}
use Rattle.bean_pushes.proofs.MatchFacts.{one_more, other_pops, same_is}
use Rattle.bean_pushes.specs.Scope.{latest, name_in, name_of, next_of, open_behind, open_pushes}
use Rattle.bean_pushes.specs.Scope.{pops_before, pops_left, reach_of, same_name}
use Rattle.bean_pushes.specs.declared.scope.PlacedBound.{PlacedBound}
use Rattle.push_laws.proofs.GivenFacts.{by_latest, by_push, each_given, latest_given, up_to}
use Rattle.push_laws.proofs.OpenFacts.{latest_of, latest_of_last, one_goes, one_stays, open_of}
use Rattle.push_laws.proofs.OpenFacts.{latest_one, other_open}
use Rattle.push_laws.proofs.OpenFacts.{take_none, there_is_a_latest}
use Rattle.push_laws.proofs.PopFacts.{IsAt, Past, UpTo, has_pop, pop_among, pop_behind}
use Rattle.push_laws.specs.Alike.{InOrder}
use Rattle.push_laws.specs.EachPush.{pop_of}

-- the first of a name
abbrev pub first_of : PushName → List Pushed → Option Pushed
first_of name ps = find (λ p. same_name (name_of p) name) ps

or_none : (o : Option Pushed) → option_or o None ≡ o
or_none None = refl
or_none (Some p) = refl

-- ---- what one push gives to a place

le_false : (a b : ℕ) → b < a → nat_le a b ≡ false
le_false a b h = grind (arith, nat_tests)

le_true : (a b : ℕ) → a ≤ b → nat_le a b ≡ true
le_true a b h = grind (arith, nat_tests)

lt_true : (a b : ℕ) → a < b → nat_lt a b ≡ true
lt_true a b h = grind (arith, nat_tests)

lt_false : (a b : ℕ) → b ≤ a → nat_lt a b ≡ false
lt_false a b h = grind (arith, nat_tests)

abbrev chosen : Bool → Bool → Pushed → List Pushed
chosen a b p = cond (a && b) (p ∷ []) []

never : (a : Bool) (p : Pushed) → chosen a false p ≡ []
never true p = refl
never false p = refl

-- it begins past the place
too_early : (p : Option Pushed) (from i : ℕ) (to : Option ℕ) → i < from → up_to p from to i ≡ []
too_early None from i to h = refl
too_early (Some p) from i None h = refl
too_early (Some p) from i (Some to) h = ap (λ a. chosen a (nat_lt i to) p) (le_false from i h)

-- it ends before it
too_late : (p : Option Pushed) (from i to : ℕ) → to ≤ i → up_to p from (Some to) i ≡ []
too_late None from i to h = refl
too_late (Some p) from i to h =
    ap (λ b. chosen (nat_le from i) b p) (lt_false i to h) ∙ never (nat_le from i) p

in_time : (p : Pushed) (from i to : ℕ) → from ≤ i → i < to → up_to (Some p) from (Some to) i ≡ p ∷ []
in_time p from i to h k = λ j. chosen (le_true from i h j) (lt_true i to k j) p

ends_before : (p : Pushed) (from i : ℕ) (o : Option ℕ) → IsAt (λ to. to ≤ i) o
    → up_to (Some p) from o i ≡ []
ends_before p from i None is = absurd is
ends_before p from i (Some to) is = too_late (Some p) from i to is

ends_past : (p : Pushed) (from i : ℕ) (o : Option ℕ) → from ≤ i → IsAt (λ to. i < to) o
    → up_to (Some p) from o i ≡ p ∷ []
ends_past p from i None h is = absurd is
ends_past p from i (Some to) h is = in_time p from i to h is

module _ (name : PushName) where
  first_one : (p : Pushed) → same_name (name_of p) name ≡ true → first_of name (p ∷ []) ≡ Some p
  first_one p e = ap (λ s. cond s (Some p) None) e

  other_one : (p : Pushed) → same_name (name_of p) name ≡ false → first_of name (p ∷ []) ≡ None
  other_one p e = ap (λ s. cond s (Some p) None) e

  other_chosen : (a : Bool) (p : Pushed) → same_name (name_of p) name ≡ false
      → first_of name (cond a (p ∷ []) []) ≡ None
  other_chosen true p e = other_one p e
  other_chosen false p e = refl

  other_up_to : (p : Pushed) (from i : ℕ) (to : Option ℕ) → same_name (name_of p) name ≡ false
      → first_of name (up_to (Some p) from to i) ≡ None
  other_up_to p from i None e = refl
  other_up_to p from i (Some to) e = other_chosen (nat_le from i && nat_lt i to) p e

-- ---- bounds up to a place and past it

abbrev Parted : ℕ → List PlacedBound → Type 0
Parted i bs =
    (front : List PlacedBound) × (back : List PlacedBound) × (bs ≡ front ++ back)
    × UpTo i front × Past i back

all_past : (i from : ℕ) (bs : List PlacedBound) → i < from
    → AllByRecursion (λ (c : PlacedBound). from ≤ c.place) bs → Past i bs
all_past i from [] h are = tt
all_past i from (b ∷ bs) h are = (omega (arith, h, are.0), all_past i from bs h are.1)

within : (a b : ℕ) → nat_le a b ≡ true → a ≤ b
within a b e = grind (arith, nat_tests)

beyond : (a b : ℕ) → nat_le a b ≡ false → b < a
beyond a b e = grind (arith, nat_tests)

parted_by : (i : ℕ) (b : PlacedBound) (bs : List PlacedBound)
    → AllByRecursion (λ (c : PlacedBound). b.place ≤ c.place) bs → Parted i bs → (s : Bool)
    → nat_le b.place i ≡ s → Parted i (b ∷ bs)
parted_by i b bs order rest true e =
    (b ∷ rest.0, rest.1, ap (λ r. b ∷ r) rest.2, (within b.place i e, rest.3), rest.4)
parted_by i b bs order rest false e =
    ([], b ∷ bs, refl, tt, (beyond b.place i e, all_past i b.place bs (beyond b.place i e) order))

parted : (i : ℕ) (bs : List PlacedBound) → InOrder bs → Parted i bs
parted i [] order = ([], [], refl, tt, tt)
parted i (b ∷ bs) order = parted_by i b bs order.0 (parted i bs order.1) (nat_le b.place i) refl

true_not_false : {A : Type 0} → true ≡ false → A
true_not_false e = absurd cc

-- ---- the latest that is open, where it is taken back

abbrev pub top_by : Bool → List Pushed → Option Pushed
top_by true ps = latest ps
top_by false ps = None

top_none : (b : Bool) → top_by b [] ≡ None
top_none true = refl
top_none false = refl

-- ---- each push up to its pop

module _ (name : PushName) (i : ℕ) where
  push_past : (b : PlacedBound) (k : Bound) (bs : List PlacedBound) → i < b.place
      → by_push b k bs i ≡ []
  push_past b (Push p) bs h = too_early (Some p) b.place i (pop_of (name_of p) 0 bs) h
  push_past b (Pop n) bs h = refl

  each_past : (bs : List PlacedBound) → Past i bs → first_of name (each_given bs i) ≡ None
  each_past [] are = refl
  each_past (b ∷ bs) are =
      find-append (λ p. same_name (name_of p) name) (each_given bs i) (by_push b b.bound bs i)
      ∙ ap (λ r. option_or r (first_of name (by_push b b.bound bs i))) (each_past bs are.1)
      ∙ ap (first_of name) (push_past b b.bound bs are.0)

module _ (name : PushName) (i : ℕ) (back : List PlacedBound) (past : Past i back)
    (b : PlacedBound) (at : b.place ≤ i) (p : Pushed) (front : List PlacedBound)
    (are : UpTo i front) where
  abbrev gives : List Pushed
  gives = up_to (Some p) b.place (pop_of name 0 (front ++ back)) i

  -- it is taken back before the place
  taken_back : 1 ≤ pops_left name front → gives ≡ []
  taken_back some =
      ends_before p b.place i (pop_of name 0 (front ++ back))
      (pop_among name (λ to. to ≤ i) front back are 0 (omega (arith, some)))

  is_behind : (opened : ℕ) → pops_left name front ≡ 0 → length (open_pushes name [] front) ≡ opened
      → pop_of name 0 (front ++ back) ≡ pop_of name opened back
  is_behind opened none is =
      pop_behind name back front 0 (omega (arith, none))
      ∙ ap (λ k. pop_of name k back) (omega (arith, none, is))

  -- or behind it
  taken_later : pops_left name front ≡ 0 → length (open_pushes name [] front) ≡ 0
      → 1 ≤ pops_left name back → gives ≡ p ∷ []
  taken_later none alone some =
      ends_past p b.place i (pop_of name 0 (front ++ back)) at
      (subst (IsAt (λ to. i < to)) (sym (is_behind 0 none alone ∙ ap (pop_of name 0) (sym (append-nil back))))
      (pop_among name (λ to. i < to) back [] past 0 (omega (arith, some))))

  -- or never
  never_given : (o : Option ℕ) → is_some o ≡ false → up_to (Some p) b.place o i ≡ []
  never_given None e = refl
  never_given (Some to) e = true_not_false e

  never_taken : pops_left name front ≡ 0 → pops_left name back ≡ 0 → gives ≡ []
  never_taken none nothing =
      never_given (pop_of name 0 (front ++ back))
      (ap is_some (is_behind (length (open_pushes name [] front)) none refl)
      ∙ has_pop name back (length (open_pushes name [] front))
      ∙ lt_false (length (open_pushes name [] front)) (pops_left name back) (omega (arith, nothing)))

  nothing_given : (n : ℕ) → pops_left name front ≡ n → pops_left name back ≡ 0 → gives ≡ []
  nothing_given zero e nothing = never_taken e nothing
  nothing_given (suc n) e nothing = taken_back (omega (arith, e))

  latest_stays : (n : ℕ) (ps : List Pushed) → pops_left name front ≡ n
      → open_pushes name [] front ≡ ps → 1 ≤ pops_left name back
      → same_name (name_of p) name ≡ true
      → option_or (latest ps) (first_of name gives) ≡ latest (open_pushes name (p ∷ []) front)
  latest_stays zero [] e is some same =
      ap (first_of name) (taken_later e (ap length is) some) ∙ first_one name p same
      ∙ sym (ap latest (one_stays name front p e) ∙ ap (λ ps. latest (p ∷ ps)) is ∙ latest_one p)
  latest_stays (suc n) [] e is some same =
      ap (first_of name) (taken_back (omega (arith, e)))
      ∙ sym (ap latest (one_goes name front p (omega (arith, e)) ∙ is))
  latest_stays zero (q ∷ qs) e is some same =
      let found = there_is_a_latest q qs in
      ap (λ o. option_or o (first_of name gives)) found.1
      ∙ sym (ap latest (one_stays name front p e) ∙ ap (λ ps. latest (p ∷ ps)) is
      ∙ latest_of_last (p ∷ []) q qs ∙ found.1)
  latest_stays (suc n) (q ∷ qs) e is some same =
      let found = there_is_a_latest q qs in
      ap (λ o. option_or o (first_of name gives)) found.1
      ∙ sym (ap latest (one_goes name front p (omega (arith, e)) ∙ is) ∙ found.1)

  own_push : (left : Bool) → nat_lt 0 (pops_left name back) ≡ left
      → same_name (name_of p) name ≡ true
      → option_or (top_by left (open_pushes name [] front)) (first_of name gives)
      ≡ top_by left (open_pushes name (p ∷ []) front)
  own_push false e same =
      ap (first_of name) (nothing_given (pops_left name front) refl (grind (arith, nat_tests)))
  own_push true e same =
      latest_stays (pops_left name front) (open_pushes name [] front) refl refl
      (grind (arith, nat_tests)) same

module _ (name : PushName) (i : ℕ) (back : List PlacedBound) (past : Past i back) (left : Bool)
    (is_left : nat_lt 0 (pops_left name back) ≡ left) where
  no_pop : (same : Bool) → cond same (take {A = Pushed} (0 - 1) []) [] ≡ []
  no_pop true = take_none (0 - 1)
  no_pop false = refl

  by_bound : (b : PlacedBound) (front : List PlacedBound) → b.place ≤ i → UpTo i front → (k : Bound)
      → option_or (top_by left (open_pushes name [] front))
      (first_of name (by_push b k (front ++ back) i))
      ≡ top_by left (open_pushes name (open_behind name [] k) front)
  by_bound b front at are (Pop m) =
      or_none (top_by left (open_pushes name [] front))
      ∙ sym (ap (λ ps. top_by left (open_pushes name ps front)) (no_pop (same_name m name)))
  by_bound b front at are (Push p) = by (same_name (name_of p) name) refl
    where
      by : (same : Bool) → same_name (name_of p) name ≡ same
          → option_or (top_by left (open_pushes name [] front))
          (first_of name (up_to (Some p) b.place (pop_of (name_of p) 0 (front ++ back)) i))
          ≡ top_by left (open_pushes name (cond (same_name (name_of p) name) (p ∷ []) []) front)
      by true e =
          ap (λ m. option_or (top_by left (open_pushes name [] front))
          (first_of name (up_to (Some p) b.place (pop_of m 0 (front ++ back)) i)))
          (same_is (name_of p) name e)
          ∙ own_push name i back past b at p front are left is_left e
          ∙ sym (ap (λ s. top_by left (open_pushes name (cond s (p ∷ []) []) front)) e)
      by false e =
          ap (option_or (top_by left (open_pushes name [] front)))
          (other_up_to name p b.place i (pop_of (name_of p) 0 (front ++ back)) e)
          ∙ or_none (top_by left (open_pushes name [] front))
          ∙ sym (ap (λ s. top_by left (open_pushes name (cond s (p ∷ []) []) front)) e)

  each_is : (front : List PlacedBound) → UpTo i front
      → first_of name (each_given (front ++ back) i) ≡ top_by left (open_pushes name [] front)
  each_is [] are = each_past name i back past ∙ sym (top_none left)
  each_is (b ∷ front) are =
      find-append (λ p. same_name (name_of p) name) (each_given (front ++ back) i)
      (by_push b b.bound (front ++ back) i)
      ∙ ap (λ r. option_or r (first_of name (by_push b b.bound (front ++ back) i)))
      (each_is front are.1)
      ∙ by_bound b front are.0 are.1 b.bound

-- ---- from push to push

or_parts : (a b : Bool) → (a || b) ≡ false → (a ≡ false) × (b ≡ false)
or_parts true b e = true_not_false e
or_parts false b e = (refl, e)

module _ (name : PushName) where
  abbrev has : List PlacedBound → Bool
  has bs = list_any (λ (b : PlacedBound). same_name (name_in b.bound) name) bs

  none_pops : (front back : List PlacedBound) → has front ≡ false
      → pops_left name (front ++ back) ≡ pops_left name back
  none_pops [] back none = refl
  none_pops (b ∷ front) back none =
      let parts = or_parts (same_name (name_in b.bound) name) (has front) none in
      other_pops name b.bound (pops_left name (front ++ back)) parts.0
      ∙ none_pops front back parts.1

  none_next : (front back : List PlacedBound) → has front ≡ false
      → next_of name (front ++ back) ≡ next_of name back
  none_next [] back none = refl
  none_next (b ∷ front) back none =
      let parts = or_parts (same_name (name_in b.bound) name) (has front) none in
      ap (λ s. cond s b.place (next_of name (front ++ back))) parts.0
      ∙ none_next front back parts.1

  none_open : (front : List PlacedBound) (ps : List Pushed) → has front ≡ false
      → open_pushes name ps front ≡ ps
  none_open [] ps none = refl
  none_open (b ∷ front) ps none =
      let parts = or_parts (same_name (name_in b.bound) name) (has front) none in
      ap (λ qs. open_pushes name qs front) (other_open name b.bound ps parts.0)
      ∙ none_open front ps parts.1

  within_by : (i place next : ℕ) (has_more : Bool) → place ≤ i → (has_more ≡ true → next ≤ i)
      → (same : Bool) → (same || has_more) ≡ true → cond same place next ≤ i
  within_by i place next has_more at more true e = at
  within_by i place next has_more at more false e = more e

  next_within : (i : ℕ) (front back : List PlacedBound) → has front ≡ true → UpTo i front
      → next_of name (front ++ back) ≤ i
  next_within i [] back some are = true_not_false (sym some)
  next_within i (b ∷ front) back some are =
      within_by i b.place (next_of name (front ++ back)) (has front) are.0
      (λ e. next_within i front back e are.1) (same_name (name_in b.bound) name) some

  past_by : (i : ℕ) (k : Bound) (place next n : ℕ) → i < place → (1 ≤ n → i < next)
      → 1 ≤ pops_before name k n → (same : Bool) → same_name (name_in k) name ≡ same
      → i < cond same place next
  past_by i k place next n at more some true e = at
  past_by i k place next n at more some false e =
      more (subst (λ m. 1 ≤ m) (other_pops name k n e) some)

  next_past : (i : ℕ) (back : List PlacedBound) → Past i back → 1 ≤ pops_left name back
      → i < next_of name back
  next_past i [] past some = absurd (omega (arith, some))
  next_past i (b ∷ back) past some =
      past_by i b.bound b.place (next_of name back) (pops_left name back) past.0
      (next_past i back past.1) some (same_name (name_in b.bound) name) refl

  -- what is open under another name
  other_latest : (o : Option Pushed) (m : PushName) (from i : ℕ) (to : Option ℕ)
      → ((q : Pushed) → o ≡ Some q → same_name (name_of q) m ≡ true) → same_name m name ≡ false
      → first_of name (up_to o from to i) ≡ None
  other_latest None m from i to are e = refl
  other_latest (Some q) m from i to are e =
      other_up_to name q from i to
      (ap (λ n. same_name n name) (same_is (name_of q) m (are q refl)) ∙ e)

  latest_past : (i : ℕ) (before bs : List PlacedBound) → Past i bs
      → first_of name (latest_given before bs i) ≡ None
  latest_past i before [] are = refl
  latest_past i before (b ∷ bs) are =
      find-append (λ p. same_name (name_of p) name) (by_latest before b bs i)
      (latest_given (before ++ b ∷ []) bs i)
      ∙ ap (λ r. option_or (first_of name r) (first_of name (latest_given (before ++ b ∷ []) bs i)))
      (too_early (latest (open_pushes (name_in b.bound) [] (before ++ b ∷ []))) b.place i
      (reach_of (name_in b.bound) bs) are.0)
      ∙ latest_past i (before ++ b ∷ []) bs are.1

  ended : (o : Option Pushed) (from i to : ℕ) (c : Bool) → to ≤ i
      → up_to o from (cond c (Some to) None) i ≡ []
  ended o from i to true h = too_late o from i to h
  ended None from i to false h = refl
  ended (Some q) from i to false h = refl

  not_given : (o : Option Pushed) (from i : ℕ) → up_to o from None i ≡ []
  not_given None from i = refl
  not_given (Some q) from i = refl

  is_given : (o : Option Pushed) (from i to : ℕ) → from ≤ i → i < to
      → ((q : Pushed) → o ≡ Some q → same_name (name_of q) name ≡ true)
      → first_of name (up_to o from (Some to) i) ≡ o
  is_given None from i to h k are = refl
  is_given (Some q) from i to h k are =
      ap (first_of name) (in_time q from i to h k) ∙ first_one name q (are q refl)

module _ (name : PushName) (i : ℕ) (back : List PlacedBound) (past : Past i back) (left : Bool)
    (is_left : nat_lt 0 (pops_left name back) ≡ left) where
  named_latest : (m : PushName) (bs : List PlacedBound) (q : Pushed)
      → latest (open_pushes m [] bs) ≡ Some q → same_name (name_of q) m ≡ true
  named_latest m bs q is = latest_of m (open_pushes m [] bs) q (open_of m bs [] tt) is

  last_gives : (opened : List Pushed) (place : ℕ) → place ≤ i
      → ((q : Pushed) → latest opened ≡ Some q → same_name (name_of q) name ≡ true) → (c : Bool)
      → nat_lt 0 (pops_left name back) ≡ c
      → first_of name (up_to (latest opened) place
      (cond (nat_lt 0 (pops_left name back)) (Some (next_of name back)) None) i)
      ≡ top_by c opened
  last_gives opened place at are true e =
      ap (λ s. first_of name (up_to (latest opened) place
      (cond s (Some (next_of name back)) None) i)) e
      ∙ is_given name (latest opened) place i (next_of name back) at
      (next_past name i back past (grind (arith, nat_tests))) are
  last_gives opened place at are false e =
      ap (λ s. first_of name (up_to (latest opened) place
      (cond s (Some (next_of name back)) None) i)) e
      ∙ ap (first_of name) (not_given name (latest opened) place i)

  own_by : (b : PlacedBound) (front before : List PlacedBound) → b.place ≤ i → UpTo i front
      → (some : Bool) → has name front ≡ some
      → option_or
      (first_of name (up_to (latest (open_pushes name [] (before ++ b ∷ []))) b.place
      (reach_of name (front ++ back)) i))
      (cond some (top_by left (open_pushes name (open_pushes name [] (before ++ b ∷ [])) front)) None)
      ≡ top_by left (open_pushes name (open_pushes name [] (before ++ b ∷ [])) front)
  own_by b front before at are true e =
      ap (λ r. option_or (first_of name r)
      (top_by left (open_pushes name (open_pushes name [] (before ++ b ∷ [])) front)))
      (ended name (latest (open_pushes name [] (before ++ b ∷ []))) b.place i
      (next_of name (front ++ back)) (nat_lt 0 (pops_left name (front ++ back)))
      (next_within name i front back e are))
  own_by b front before at are false e =
      or_none _
      ∙ (λ j. first_of name (up_to (latest (open_pushes name [] (before ++ b ∷ []))) b.place
      (cond (nat_lt 0 (none_pops name front back e j)) (Some (none_next name front back e j)) None)
      i))
      ∙ last_gives (open_pushes name [] (before ++ b ∷ [])) b.place at
      (named_latest name (before ++ b ∷ [])) left is_left
      ∙ sym (ap (top_by left) (none_open name front (open_pushes name [] (before ++ b ∷ [])) e))

  latest_by : (b : PlacedBound) (front before : List PlacedBound) → b.place ≤ i → UpTo i front
      → (rest : Option Pushed)
      → rest ≡ cond (has name front)
      (top_by left (open_pushes name (open_pushes name [] (before ++ b ∷ [])) front)) None
      → (same : Bool) → same_name (name_in b.bound) name ≡ same
      → option_or (first_of name (by_latest before b (front ++ back) i)) rest
      ≡ cond (same_name (name_in b.bound) name || has name front)
      (top_by left (open_pushes name (open_pushes name [] (before ++ b ∷ [])) front)) None
  latest_by b front before at are rest is true e =
      ap (λ m. option_or (first_of name (up_to (latest (open_pushes m [] (before ++ b ∷ [])))
      b.place (reach_of m (front ++ back)) i)) rest) (same_is (name_in b.bound) name e)
      ∙ ap (option_or (first_of name (up_to (latest (open_pushes name [] (before ++ b ∷ [])))
      b.place (reach_of name (front ++ back)) i))) is
      ∙ own_by b front before at are (has name front) refl
      ∙ sym (ap (λ s. cond (s || has name front)
      (top_by left (open_pushes name (open_pushes name [] (before ++ b ∷ [])) front)) None) e)
  latest_by b front before at are rest is false e =
      ap (λ r. option_or r rest)
      (other_latest name (latest (open_pushes (name_in b.bound) [] (before ++ b ∷ [])))
      (name_in b.bound) b.place i (reach_of (name_in b.bound) (front ++ back))
      (named_latest (name_in b.bound) (before ++ b ∷ [])) e)
      ∙ is
      ∙ sym (ap (λ s. cond (s || has name front)
      (top_by left (open_pushes name (open_pushes name [] (before ++ b ∷ [])) front)) None) e)

  latest_is : (front before : List PlacedBound) → UpTo i front
      → first_of name (latest_given before (front ++ back) i)
      ≡ cond (has name front) (top_by left (open_pushes name (open_pushes name [] before) front)) None
  latest_is [] before are = latest_past name i before back past
  latest_is (b ∷ front) before are =
      find-append (λ p. same_name (name_of p) name) (by_latest before b (front ++ back) i)
      (latest_given (before ++ b ∷ []) (front ++ back) i)
      ∙ ap (option_or (first_of name (by_latest before b (front ++ back) i)))
      (latest_is front (before ++ b ∷ []) are.1)
      ∙ latest_by b front before are.0 are.1
      (cond (has name front)
      (top_by left (open_pushes name (open_pushes name [] (before ++ b ∷ [])) front)) None)
      refl (same_name (name_in b.bound) name) refl
      ∙ ap (λ ps. cond (same_name (name_in b.bound) name || has name front)
      (top_by left (open_pushes name ps front)) None) (one_more name [] before b)

-- ---- both

pub same_first : (name : PushName) (i : ℕ) (bs : List PlacedBound) → InOrder bs
    → first_of name (each_given bs i) ≡ first_of name (latest_given [] bs i)
same_first name i bs order =
    let found = parted i bs order in
    both found.0 found.1 found.2 found.3 found.4
  where
    by : (some : Bool) (front : List PlacedBound) (left : Bool) → has name front ≡ some
        → top_by left (open_pushes name [] front)
        ≡ cond some (top_by left (open_pushes name [] front)) None
    by true front left e = refl
    by false front left e = ap (top_by left) (none_open name front [] e) ∙ top_none left

    both : (front back : List PlacedBound) → bs ≡ front ++ back → UpTo i front → Past i back
        → first_of name (each_given bs i) ≡ first_of name (latest_given [] bs i)
    both front back is are past =
        let left = nat_lt 0 (pops_left name back) in
        ap (λ cs. first_of name (each_given cs i)) is
        ∙ each_is name i back past left refl front are
        ∙ by (has name front) front left refl
        ∙ sym (latest_is name i back past left refl front [] are)
        ∙ sym (ap (λ cs. first_of name (latest_given [] cs i)) is)
