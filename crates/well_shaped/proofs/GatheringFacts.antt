-- What is gathered of shaped inputs lies in the shapes that are given to it.
use Rattle.std.proofs.Common.{◌≡◌, ℕ, suc, ◌≤◌, List, [], ◌∷◌, ◌++◌, length, map}
use Rattle.std.proofs.Common.{Option, Some, None, Ok, Err, Bool, true, false, cond, refl, sym, ap}
use Rattle.std.proofs.Common.{◌∙◌, subst, arith}
use Rattle.std.specs.Prelude.{⊤, option_map, option_and_then}
use Rattle.std.specs.List.{AllByRecursion}
use Rattle.std.proofs.lemmas.Bool.{and_from}
use Rattle.query_values.specs.Aggregate.{aggregate_of, may_take}
use Rattle.query_values.specs.Held.{checked, is_held}
use Rattle.query_values.specs.declared.operation.Aggregate.{Aggregate}
use Rattle.query_values.specs.declared.operation.Aggregate.TheVariants.{CountRows}
use Rattle.query_values.specs.declared.value.Value.{Value}
use Rattle.query_rows.proofs.GatheringFacts.{on_rows, on_values, takes_on}
use Rattle.query_rows.specs.Keeping.{Has}
use Rattle.query_rows.specs.Rules.{Ruled, aggregate_shape}
use Rattle.query_rows.specs.Shape.{LiesIn}
use Rattle.query_rows.specs.declared.shape.Shape.{Shape}
use Rattle.query_rows.specs.Same.{same_values}
use Rattle.plain_machine.specs.Gathering as values
use Rattle.plain_machine.specs.Gathering.{Group, all_inputs, aggregates_over, group_if, inputs_of}
use Rattle.plain_machine.specs.Gathering.{next_input, put, take_each, with_input}
use Rattle.well_shaped.specs.Ends as shapes
use Rattle.well_shaped.specs.Ends.{gathered}
use Rattle.well_shaped.specs.Sections.{given}
use Rattle.well_shaped.specs.StateShape.{AreEach, IfSet}

-- there is something, and this holds of it
abbrev pub Gives : {A : Type 0} → (A → Type 0) → Option A → Type 0
Gives P None = ⊥
Gives P (Some x) = P x

pub gives_on : {A B : Type 0} (P : A → Type 0) (Q : B → Type 0) (f : A → B) → ((x : A) → P x → Q (f x))
    → (o : Option A) → Gives P o → Gives Q (option_map f o)
gives_on P Q f h None g = absurd g
gives_on P Q f h (Some x) g = h x g

pub each_on : {A : Type 0} (P Q : A → Type 0) → ((x : A) → P x → Q x) → (xs : List A)
    → AllByRecursion P xs → AllByRecursion Q xs
each_on P Q h [] all = tt
each_on P Q h (x ∷ xs) all = (h x all.0, each_on P Q h xs all.1)

pub one_behind : {A : Type 0} (P : A → Type 0) (xs : List A) (x : A) → AllByRecursion P xs → P x
    → AllByRecursion P (xs ++ x ∷ [])
one_behind P [] x all h = (h, tt)
one_behind P (y ∷ xs) x all h = (all.0, one_behind P xs x all.1 h)

longer : {A : Type 0} (xs : List A) (x : A) → length (xs ++ x ∷ []) ≡ suc (length xs)
longer [] x = refl
longer (y ∷ xs) x = ap suc (longer xs x)

-- ---- one aggregate

-- an input is of its shape; rows are counted whatever they bring
abbrev pub IsInput : Option Shape → Value → Type 0
IsInput None x = ⊤
IsInput (Some s) x = LiesIn x s

-- at most k inputs
pub record AreInputs (k : ℕ) (s : Option Shape) (xs : List Value) : Type 0 where
  pub few : length xs ≤ k
  pub each : AllByRecursion (IsInput s) xs

-- what is gathered of them can be held and is of the shape
pub record IsGathered (t : Shape) (x : Value) : Type 0 where
  pub held : is_held x ≡ true
  pub lies : LiesIn x t

is_gathered : (t : Shape) (x : Value) → Has (checked true x) (Ok t) → IsGathered t x
is_gathered t x h = by (is_held x) refl h
  where
    by : (b : Bool) → is_held x ≡ b → Has (cond b (Some x) None) (Ok t) → IsGathered t x
    by true e h = record { held = e; lies = h }
    by false e h = absurd h

pub gathers : (a : Aggregate) (n : ℕ) (s : Option Shape) (t : Shape) (xs : List Value)
    → aggregate_shape n a s ≡ Ok t → AreInputs n s xs → IsGathered t (aggregate_of a xs)
gathers a n (Some s) t xs e are =
    is_gathered t (aggregate_of a xs)
    (subst (λ r. Has (checked true (aggregate_of a xs)) r) e (on_values a n s xs are.few are.each))
gathers CountRows n None t xs e are =
    is_gathered t (aggregate_of CountRows xs)
    (subst (λ r. Has (checked true (aggregate_of CountRows xs)) r) e (on_rows n xs are.few))
gathers a n None t xs e are = absurd cc

pub takes : (a : Aggregate) (n : ℕ) (s : Option Shape) (t : Shape) (xs : List Value) (x : Value)
    → aggregate_shape n a s ≡ Ok t → AllByRecursion (IsInput s) xs → IsInput s x
    → may_take a (aggregate_of a xs) x ≡ true
takes a n (Some s) t xs x e all h = takes_on a n s t xs x e all h
takes CountRows n None t xs x e all h = refl
takes a n None t xs x e all h = absurd cc

pub one_more : (k : ℕ) (s : Option Shape) (xs : List Value) (x : Value) → AreInputs k s xs → IsInput s x
    → AreInputs (suc k) s (xs ++ x ∷ [])
one_more k s xs x are h = record {
  few = let few = are.few in let long = longer xs x in omega (arith, few, long);
  each = one_behind (IsInput s) xs x are.each h;
}

pub later : (k l : ℕ) (s : Option Shape) (xs : List Value) → k ≤ l → AreInputs k s xs → AreInputs l s xs
later k l s xs low are =
    record { few = let few = are.few in omega (arith, few, low); each = are.each }

module _ (a : Aggregate) (n : ℕ) (s : Option Shape) (t : Shape) (e : aggregate_shape n a s ≡ Ok t)
    (k : ℕ) (room : suc k ≤ n) (xs : List Value) (x : Value) (are : AreInputs k s xs)
    (h : IsInput s x) where
  -- one input more may be taken, and what is gathered then can be held
  pub held_more : is_held (aggregate_of a (xs ++ x ∷ [])) ≡ true
  held_more =
      (gathers a n s t (xs ++ x ∷ []) e
      (later (suc k) n s (xs ++ x ∷ []) room (one_more k s xs x are h))).held

  pub may_more : may_take a (aggregate_of a xs) x ≡ true
  may_more = takes a n s t xs x e are.each h

  input_more : Gives (AreInputs (suc k) s) (with_input a xs x)
  input_more =
      subst (λ b. Gives (AreInputs (suc k) s) (cond b (Some (xs ++ x ∷ [])) None))
      (sym (and_from (may_take a (aggregate_of a xs) x) (is_held (aggregate_of a (xs ++ x ∷ [])))
      may_more held_more))
      (one_more k s xs x are h)

-- ---- all aggregates of a group

-- the shape of an aggregate's input, and those behind it
abbrev pub next_shape : Aggregate → List Shape → Option (Option Shape × List Shape)
next_shape CountRows inputs = Some (None, inputs)
next_shape a inputs = option_map (λ i. (Some i.0, i.1)) (shapes.front_of inputs)

abbrev pub gathered_from : ℕ → Aggregate → List Aggregate → Option (Option Shape × List Shape)
    → Option (List Shape)
gathered_from n a aggregates next =
    option_and_then
    (λ i. shapes.cons_if (given (aggregate_shape n a i.0)) (gathered n aggregates i.1)) next

by_next : (n : ℕ) (a : Aggregate) (aggregates : List Aggregate) (inputs : List Shape)
    → gathered n (a ∷ aggregates) inputs ≡ gathered_from n a aggregates (next_shape a inputs)
by_next n CountRows aggregates inputs = refl
by_next n a aggregates [] = refl
by_next n a aggregates (s ∷ inputs) = refl

-- what is gathered by one aggregate and by those behind it
record Parted (n : ℕ) (a : Aggregate) (aggregates : List Aggregate)
    (next : Option (Option Shape × List Shape)) (totals : List Shape) : Type 0 where
  pub input : Option Shape
  pub others : List Shape
  pub is_next : next ≡ Some (input, others)
  pub total : Shape
  pub rest : List Shape
  pub is_total : aggregate_shape n a input ≡ Ok total
  pub are_rest : gathered n aggregates others ≡ Some rest
  pub are : totals ≡ total ∷ rest

parted : (n : ℕ) (a : Aggregate) (aggregates : List Aggregate)
    (next : Option (Option Shape × List Shape)) (totals : List Shape)
    → gathered_from n a aggregates next ≡ Some totals → Parted n a aggregates next totals
parted n a aggregates None totals e = absurd cc
parted n a aggregates (Some (input, others)) totals e =
    by (aggregate_shape n a input) (gathered n aggregates others) refl refl e
  where
    by : (r : Ruled) (o : Option (List Shape))
        → aggregate_shape n a input ≡ r → gathered n aggregates others ≡ o
        → shapes.cons_if (given r) o ≡ Some totals
        → Parted n a aggregates (Some (input, others)) totals
    by (Err m) o one all e = absurd cc
    by (Ok t) None one all e = absurd cc
    by (Ok t) (Some ts) one all e = record {
      input = input;
      others = others;
      is_next = refl;
      total = t;
      rest = ts;
      is_total = one;
      are_rest = all;
      are = let same : t ∷ ts ≡ totals = cc in sym same;
    }

-- the lists of the inputs of a group, of at most k members
abbrev pub ListsLie : ℕ → List Aggregate → List Shape → List (List Value) → Type 0
ListsLie k [] inputs [] = ⊤
ListsLie k [] inputs (xs ∷ lists) = ⊥
ListsLie k (a ∷ aggregates) inputs [] = ⊥
ListsLie k (a ∷ aggregates) inputs (xs ∷ lists) =
    Gives (λ i. AreInputs k i.0 xs × ListsLie k aggregates i.1 lists) (next_shape a inputs)

module _ (n : ℕ) where
  -- what the inputs of a group are, aggregate by aggregate
  lists_by : (k : ℕ) (a : Aggregate) (aggregates : List Aggregate) (inputs totals : List Shape)
      (p : Parted n a aggregates (next_shape a inputs) totals) (xs : List Value)
      (lists : List (List Value)) → AreInputs k p.input xs → ListsLie k aggregates p.others lists
      → ListsLie k (a ∷ aggregates) inputs (xs ∷ lists)
  lists_by k a aggregates inputs totals p xs lists one rest =
      subst (λ o. Gives (λ i. AreInputs k i.0 xs × ListsLie k aggregates i.1 lists) o)
      (sym p.is_next) (one, rest)

  of_lists : (k : ℕ) (a : Aggregate) (aggregates : List Aggregate) (inputs totals : List Shape)
      (p : Parted n a aggregates (next_shape a inputs) totals) (xs : List Value)
      (lists : List (List Value)) → ListsLie k (a ∷ aggregates) inputs (xs ∷ lists)
      → AreInputs k p.input xs × ListsLie k aggregates p.others lists
  of_lists k a aggregates inputs totals p xs lists lie =
      subst (λ o. Gives (λ i. AreInputs k i.0 xs × ListsLie k aggregates i.1 lists) o) p.is_next lie

  parts_of : (a : Aggregate) (aggregates : List Aggregate) (inputs totals : List Shape)
      → gathered n (a ∷ aggregates) inputs ≡ Some totals
      → Parted n a aggregates (next_shape a inputs) totals
  parts_of a aggregates inputs totals e =
      parted n a aggregates (next_shape a inputs) totals
      (sym (by_next n a aggregates inputs) ∙ e)

  starts : (aggregates : List Aggregate) (inputs totals : List Shape)
      → gathered n aggregates inputs ≡ Some totals
      → ListsLie 0 aggregates inputs (map (λ a. []) aggregates)
  starts [] inputs totals e = tt
  starts (a ∷ aggregates) inputs totals e =
      let p = parts_of a aggregates inputs totals e in
      lists_by 0 a aggregates inputs totals p [] (map (λ a. []) aggregates)
      (record { few = omega arith; each = tt }) (starts aggregates p.others p.rest p.are_rest)

  -- the inputs that a row brings
  abbrev NextLies : Value × List Value → Option Shape × List Shape → Type 0
  NextLies v s = IsInput s.0 v.0 × AreEach LiesIn v.1 s.1

  next_lies : (a : Aggregate) (vs : List Value) (inputs : List Shape) → AreEach LiesIn vs inputs
      → IfSet NextLies (next_input a vs) (next_shape a inputs)
  next_lies CountRows vs inputs each = (tt, each)
  next_lies a vs [] each = tt
  next_lies a [] (s ∷ inputs) each = absurd each
  next_lies a (x ∷ vs) (s ∷ inputs) each = each

  cons_gives : {A : Type 0} (P : A → Type 0) (Q R : List A → Type 0)
      → ((x : A) (xs : List A) → P x → Q xs → R (x ∷ xs)) → (o : Option A) (os : Option (List A))
      → Gives P o → Gives Q os → Gives R (values.cons_if o os)
  cons_gives P Q R h None os one all = absurd one
  cons_gives P Q R h (Some x) None one all = absurd all
  cons_gives P Q R h (Some x) (Some xs) one all = h x xs one all

  take_lies : (k : ℕ) → suc k ≤ n → (aggregates : List Aggregate) (inputs totals : List Shape)
      (lists : List (List Value)) (vs : List Value) → gathered n aggregates inputs ≡ Some totals
      → ListsLie k aggregates inputs lists → AreEach LiesIn vs inputs
      → Gives (ListsLie (suc k) aggregates inputs) (take_each with_input aggregates lists vs)
  take_lies k room [] (s ∷ inputs) totals lists vs e lie each = absurd cc
  take_lies k room [] [] totals lists (v ∷ vs) e lie each = absurd each
  take_lies k room [] [] totals lists [] e lie each = tt
  take_lies k room (a ∷ aggregates) inputs totals [] vs e lie each = absurd lie
  take_lies k room (a ∷ aggregates) inputs totals (xs ∷ lists) vs e lie each =
      by (next_input a vs)
      (subst (λ o. IfSet NextLies (next_input a vs) o) p.is_next (next_lies a vs inputs each))
      (λ ws. take_lies k room aggregates p.others p.rest lists ws p.are_rest these.1)
    where
      p : Parted n a aggregates (next_shape a inputs) totals
      p = parts_of a aggregates inputs totals e

      these : AreInputs k p.input xs × ListsLie k aggregates p.others lists
      these = of_lists k a aggregates inputs totals p xs lists lie

      by : (o : Option (Value × List Value)) → IfSet NextLies o (Some (p.input, p.others))
          → ((ws : List Value) → AreEach LiesIn ws p.others
          → Gives (ListsLie (suc k) aggregates p.others)
          (take_each with_input aggregates lists ws))
          → Gives (ListsLie (suc k) (a ∷ aggregates) inputs)
          (option_and_then
          (λ i. values.cons_if (with_input a xs i.0) (take_each with_input aggregates lists i.1)) o)
      by None h others = absurd h
      by (Some v) h others =
          cons_gives (AreInputs (suc k) p.input) (ListsLie (suc k) aggregates p.others)
          (ListsLie (suc k) (a ∷ aggregates) inputs)
          (λ ys more one all. lists_by (suc k) a aggregates inputs totals p ys more one all)
          (with_input a xs v.0) (take_each with_input aggregates lists v.1)
          (input_more a n p.input p.total p.is_total k room xs v.0 these.0 h.0)
          (others v.1 h.1)

  pub values_lie : (aggregates : List Aggregate) (inputs totals : List Shape)
      (lists : List (List Value)) → gathered n aggregates inputs ≡ Some totals
      → ListsLie n aggregates inputs lists → AreEach LiesIn (aggregates_over aggregates lists) totals
  values_lie [] (s ∷ inputs) totals lists e lie = absurd cc
  values_lie [] [] [] lists e lie = tt
  values_lie [] [] (t ∷ totals) lists e lie = absurd cc
  values_lie (a ∷ aggregates) inputs totals [] e lie = absurd lie
  values_lie (a ∷ aggregates) inputs totals (xs ∷ lists) e lie =
      let p = parts_of a aggregates inputs totals e in
      let these = of_lists n a aggregates inputs totals p xs lists lie in
      subst (λ ts. AreEach LiesIn (aggregate_of a xs ∷ aggregates_over aggregates lists) ts)
      (sym p.are) (
        (gathers a n p.input p.total xs p.is_total these.0).lies,
        values_lie aggregates p.others p.rest lists p.are_rest these.1,
      )

  abbrev others_in : Option (Option Shape × List Shape) → List Shape
  others_in None = []
  others_in (Some i) = i.1

  as_many_next : (a : Aggregate) (inputs : List Shape) (input : Option Shape) (others : List Shape)
      (aggregates : List Aggregate) → next_shape a inputs ≡ Some (input, others)
      → length others ≡ inputs_of aggregates → length inputs ≡ inputs_of (a ∷ aggregates)
  as_many_next CountRows inputs input others aggregates e many =
      ap (λ o. length (others_in o)) e ∙ many
  as_many_next a [] input others aggregates e many = absurd cc
  as_many_next a (s ∷ inputs) input others aggregates e many =
      let all : length inputs ≡ inputs_of aggregates =
      ap (λ o. length (others_in o)) e ∙ many in
      omega (arith, all)

  -- as many inputs as the aggregates take
  pub as_many_inputs : (aggregates : List Aggregate) (inputs totals : List Shape)
      → gathered n aggregates inputs ≡ Some totals → length inputs ≡ inputs_of aggregates
  as_many_inputs [] [] totals e = refl
  as_many_inputs [] (s ∷ inputs) totals e = absurd cc
  as_many_inputs (a ∷ aggregates) inputs totals e =
      let p = parts_of a aggregates inputs totals e in
      as_many_next a inputs p.input p.others aggregates p.is_next
      (as_many_inputs aggregates p.others p.rest p.are_rest)

lists_later : (k l : ℕ) → k ≤ l → (aggregates : List Aggregate) (inputs : List Shape)
    (lists : List (List Value)) → ListsLie k aggregates inputs lists
    → ListsLie l aggregates inputs lists
lists_later k l low [] inputs [] lie = tt
lists_later k l low [] inputs (xs ∷ lists) lie = absurd lie
lists_later k l low (a ∷ aggregates) inputs [] lie = absurd lie
lists_later k l low (a ∷ aggregates) inputs (xs ∷ lists) lie =
    by (next_shape a inputs) (λ others. lists_later k l low aggregates others lists) lie
  where
    by : (o : Option (Option Shape × List Shape))
        → ((others : List Shape) → ListsLie k aggregates others lists
        → ListsLie l aggregates others lists)
        → Gives (λ i. AreInputs k i.0 xs × ListsLie k aggregates i.1 lists) o
        → Gives (λ i. AreInputs l i.0 xs × ListsLie l aggregates i.1 lists) o
    by None rest h = absurd h
    by (Some i) rest h = (later k l i.0 xs low h.0, rest i.1 h.1)

-- ---- the groups

-- a group of at most k members
pub record GroupLies (aggregates : List Aggregate) (keys inputs : List Shape) (k : ℕ)
    (g : Group (List (List Value))) : Type 0 where
  pub named : AreEach LiesIn g.0 keys
  pub lists : ListsLie k aggregates inputs g.1

pub groups_later : (aggregates : List Aggregate) (keys inputs : List Shape) (k l : ℕ) → k ≤ l
    → (groups : List (Group (List (List Value))))
    → AllByRecursion (GroupLies aggregates keys inputs k) groups
    → AllByRecursion (GroupLies aggregates keys inputs l) groups
groups_later aggregates keys inputs k l low =
    each_on (GroupLies aggregates keys inputs k) (GroupLies aggregates keys inputs l)
    (λ g lie. record {
      named = lie.named;
      lists = lists_later k l low aggregates inputs g.1 lie.lists;
    })

module _ (n : ℕ) (aggregates : List Aggregate) (keys inputs totals : List Shape)
    (gather : gathered n aggregates inputs ≡ Some totals) (k : ℕ) (room : suc k ≤ n) where
  abbrev Lies : ℕ → Group (List (List Value)) → Type 0
  Lies = GroupLies aggregates keys inputs

  -- one member more in a group
  member_lies : (these : List Value) (lists : List (List Value)) (vs : List Value)
      (groups : List (Group (List (List Value)))) → AreEach LiesIn these keys
      → ListsLie k aggregates inputs lists → AreEach LiesIn vs inputs
      → AllByRecursion (Lies (suc k)) groups
      → Gives (AllByRecursion (Lies (suc k)))
      (group_if these (take_each with_input aggregates lists vs) groups)
  member_lies these lists vs groups named lie each all =
      gives_on (ListsLie (suc k) aggregates inputs) (AllByRecursion (Lies (suc k)))
      (λ more. (these, more) ∷ groups) (λ more h. (record { named = named; lists = h }, all))
      (take_each with_input aggregates lists vs)
      (take_lies n k room aggregates inputs totals lists vs gather lie each)

  -- inputs in the group of their keys
  pub put_lies : (groups : List (Group (List (List Value)))) (these vs : List Value)
      → AreEach LiesIn these keys → AreEach LiesIn vs inputs → AllByRecursion (Lies k) groups
      → Gives (AllByRecursion (Lies (suc k))) (put (all_inputs aggregates) groups these vs)
  put_lies [] these vs named each all =
      member_lies these (map (λ a. []) aggregates) vs [] named
      (lists_later 0 k (omega arith) aggregates inputs (map (λ a. []) aggregates)
      (starts n aggregates inputs totals gather)) each tt
  put_lies (g ∷ groups) these vs named each all =
      by (same_values these g.0) (put_lies groups these vs named each all.1)
    where
      grown : AllByRecursion (Lies (suc k)) (g ∷ groups)
      grown = groups_later aggregates keys inputs k (suc k) (omega arith) (g ∷ groups) all

      behind : (o : Option (List (Group (List (List Value)))))
          → Gives (AllByRecursion (Lies (suc k))) o
          → Gives (AllByRecursion (Lies (suc k))) (values.cons_if (Some g) o)
      behind None h = absurd h
      behind (Some more) h = (grown.0, h)

      by : (b : Bool)
          → Gives (AllByRecursion (Lies (suc k))) (put (all_inputs aggregates) groups these vs)
          → Gives (AllByRecursion (Lies (suc k)))
          (cond b (group_if g.0 (take_each with_input aggregates g.1 vs) groups)
          (values.cons_if (Some g) (put (all_inputs aggregates) groups these vs)))
      by true others = member_lies g.0 g.1 vs groups all.0.named all.0.lists each grown.1
      by false others = behind (put (all_inputs aggregates) groups these vs) others
