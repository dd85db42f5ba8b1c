-- A table that grows member by member has their groups.
use Rattle.std.proofs.Common.{◌≡◌, List, [], ◌∷◌, ◌++◌, map, Option, Some, None, Bool, true, false}
use Rattle.std.proofs.Common.{cond, ◌||◌, refl, sym, ap, subst, ◌∙◌, true≢false}
use Rattle.std.specs.Prelude.{filter, option_and_then}
use Rattle.std.specs.List.{AllByRecursion, list_any}
use Rattle.std.proofs.lemmas.List.{append-nil}
use Rattle.query_rows.proofs.SameFacts.{lists_same}
use Rattle.query_values.specs.declared.value.Value.{Value}
use Rattle.query_rows.specs.Same.{same_values, with_new, each_once}
use Rattle.plain_machine.specs.Gathering.{Keeping, Group, cons_if, group_if, put}
use Rattle.plain_machine.specs.Grouping.{Member, put_all, come_to, inputs_under, AreGroups}

neither : (a b : Bool) → (a || b) ≡ false → (a ≡ false) × (b ≡ false)
neither true b e = absurd (true≢false e)
neither false b e = (refl, e)

-- ---- lists of keys

abbrev is_there : List Value → List (List Value) → Bool
is_there k ks = list_any (same_values k) ks

same_are_there : (a b : List Value) → same_values a b ≡ true → (ks : List (List Value))
    → is_there a ks ≡ is_there b ks
same_are_there a b e [] = refl
same_are_there a b e (x ∷ ks) = λ i. lists_same.congr a b x e i || same_are_there a b e ks i

there_before : (x k : List Value) (ks : List (List Value)) → is_there x ks ≡ true
    → is_there x (ks ++ k ∷ []) ≡ true
there_before x k [] e = absurd (true≢false (sym e))
there_before x k (y ∷ ks) e = by (same_values x y) e (there_before x k ks)
  where
    by : (b : Bool) → (b || is_there x ks) ≡ true
        → (is_there x ks ≡ true → is_there x (ks ++ k ∷ []) ≡ true)
        → (b || is_there x (ks ++ k ∷ [])) ≡ true
    by true e rest = refl
    by false e rest = rest e

there_last : (k : List Value) (ks : List (List Value)) → is_there k (ks ++ k ∷ []) ≡ true
there_last k [] = ap (λ b. b || false) (lists_same.refl k)
there_last k (y ∷ ks) = by (same_values k y) (there_last k ks)
  where
    by : (b : Bool) → is_there k (ks ++ k ∷ []) ≡ true → (b || is_there k (ks ++ k ∷ [])) ≡ true
    by true e = refl
    by false e = e

not_there : (x k : List Value) (ks : List (List Value)) → is_there x ks ≡ false
    → same_values x k ≡ false → is_there x (ks ++ k ∷ []) ≡ false
not_there x k [] e s = ap (λ b. b || false) s
not_there x k (y ∷ ks) e s = let h = neither (same_values x y) (is_there x ks) e in
    λ i. h.0 i || not_there x k ks h.1 s i

-- none is the same as one behind it
abbrev Apart : List (List Value) → Type 0
Apart [] = Unit {0}
Apart (k ∷ ks) = (is_there k ks ≡ false) × Apart ks

apart_behind : (k : List Value) (ks : List (List Value)) → Apart ks → is_there k ks ≡ false
    → Apart (ks ++ k ∷ [])
apart_behind k [] apart e = (refl, tt)
apart_behind k (x ∷ ks) apart e = let h = neither (same_values k x) (is_there k ks) e in
    (not_there x k ks apart.0 (lists_same.symm x k ∙ h.0), apart_behind k ks apart.1 h.1)

apart_with : (k : List Value) (ks : List (List Value)) → Apart ks → Apart (with_new ks k)
apart_with k ks apart = by (is_there k ks) refl
  where
    by : (b : Bool) → is_there k ks ≡ b → Apart (cond b ks (ks ++ k ∷ []))
    by true e = apart
    by false e = apart_behind k ks apart e

once_more : (kept xs : List (List Value)) (x : List Value)
    → each_once kept (xs ++ x ∷ []) ≡ with_new (each_once kept xs) x
once_more kept [] x = refl
once_more kept (y ∷ xs) x = once_more (with_new kept y) xs x

-- ---- members

abbrev keys_in : List Member → List (List Value)
keys_in ms = map (λ m. m.0) ms

-- the members with these keys
abbrev those : List Value → List Member → List Member
those k ms = filter (λ m. same_values m.0 k) ms

keys_more : (ms : List Member) (m : Member) → keys_in (ms ++ m ∷ []) ≡ keys_in ms ++ m.0 ∷ []
keys_more [] m = refl
keys_more (d ∷ ms) m = ap (λ l. d.0 ∷ l) (keys_more ms m)

inputs_more : (k : List Value) (ms : List Member) (m : Member)
    → inputs_under k (ms ++ m ∷ []) ≡ inputs_under k ms ++ cond (same_values m.0 k) (m.1 ∷ []) []
inputs_more k [] m = by (same_values m.0 k)
  where
    by : (b : Bool) → map (λ (d : Member). d.1) (cond b (m ∷ []) []) ≡ cond b (m.1 ∷ []) []
    by true = refl
    by false = refl
inputs_more k (d ∷ ms) m = by (same_values d.0 k) (inputs_more k ms m)
  where
    by : (b : Bool)
        → inputs_under k (ms ++ m ∷ [])
        ≡ inputs_under k ms ++ cond (same_values m.0 k) (m.1 ∷ []) []
        → map (λ (d : Member). d.1) (cond b (d ∷ those k (ms ++ m ∷ [])) (those k (ms ++ m ∷ [])))
        ≡ map (λ (d : Member). d.1) (cond b (d ∷ those k ms) (those k ms))
        ++ cond (same_values m.0 k) (m.1 ∷ []) []
    by true h = ap (λ l. d.1 ∷ l) h
    by false h = h

abbrev AreThere : List (List Value) → List Member → Type 0
AreThere ks ms = AllByRecursion (λ m. is_there m.0 ks ≡ true) ms

absent : (k : List Value) (ks : List (List Value)) (ms : List Member) → AreThere ks ms
    → is_there k ks ≡ false → inputs_under k ms ≡ []
absent k ks [] there e = refl
absent k ks (d ∷ ms) there e = by (same_values d.0 k) refl (absent k ks ms there.1 e)
  where
    by : (b : Bool) → same_values d.0 k ≡ b → inputs_under k ms ≡ []
        → map (λ (d : Member). d.1) (cond b (d ∷ those k ms) (those k ms)) ≡ []
    by true s h = absurd (true≢false (sym there.0 ∙ same_are_there d.0 k s ks ∙ e))
    by false s h = h

all_there : (ks ls : List (List Value)) (ms : List Member) (m : Member)
    → ((x : List Value) → is_there x ks ≡ true → is_there x ls ≡ true) → AreThere ks ms
    → is_there m.0 ls ≡ true → AreThere ls (ms ++ m ∷ [])
all_there ks ls [] m more there e = (e, tt)
all_there ks ls (d ∷ ms) m more there e = (more d.0 there.0, all_there ks ls ms m more there.1 e)

there_with : (ks : List (List Value)) (ms : List Member) (m : Member) → AreThere ks ms
    → AreThere (with_new ks m.0) (ms ++ m ∷ [])
there_with ks ms m there = by (is_there m.0 ks) refl
  where
    by : (b : Bool) → is_there m.0 ks ≡ b → AreThere (cond b ks (ks ++ m.0 ∷ [])) (ms ++ m ∷ [])
    by true e = all_there ks ks ms m (λ x h. h) there e
    by false e =
        all_there ks (ks ++ m.0 ∷ []) ms m (λ x h. there_before x m.0 ks h) there
        (there_last m.0 ks)

module _ {X : Type 0} (keep : Keeping X) where
  abbrev keys_of : List (Group X) → List (List Value)
  keys_of gs = map (λ g. g.0) gs

  settled : (o : Option X) → option_and_then (λ y. Some y) o ≡ o
  settled None = refl
  settled (Some x) = refl

  come_more : (x : X) (inputs : List (List Value)) (i : List Value)
      → come_to keep x (inputs ++ i ∷ [])
      ≡ option_and_then (λ y. keep.add y i) (come_to keep x inputs)
  come_more x [] i = settled (keep.add x i)
  come_more x (j ∷ inputs) i = by (keep.add x j) (λ y. come_more y inputs i)
    where
      by : (o : Option X)
          → ((y : X)
          → come_to keep y (inputs ++ i ∷ [])
          ≡ option_and_then (λ z. keep.add z i) (come_to keep y inputs))
          → option_and_then (λ y. come_to keep y (inputs ++ i ∷ [])) o
          ≡ option_and_then (λ z. keep.add z i) (option_and_then (λ y. come_to keep y inputs) o)
      by None rest = refl
      by (Some y) rest = rest y

  -- a group has what its members' inputs come to
  abbrev Has : List Member → Group X → Type 0
  Has ms g = come_to keep keep.start (inputs_under g.0 ms) ≡ Some g.1

  has_still : (ms : List Member) (m : Member) (g : Group X) → Has ms g → same_values m.0 g.0 ≡ false
      → Has (ms ++ m ∷ []) g
  has_still ms m g has e =
      ap (come_to keep keep.start)
      (inputs_more g.0 ms m ∙ ap (λ b. inputs_under g.0 ms ++ cond b (m.1 ∷ []) []) e
      ∙ append-nil (inputs_under g.0 ms)) ∙ has

  has_more : (ms : List Member) (m : Member) (g : Group X) (x : X) → Has ms g
      → same_values m.0 g.0 ≡ true → keep.add g.1 m.1 ≡ Some x → Has (ms ++ m ∷ []) (g.0, x)
  has_more ms m g x has e added =
      ap (come_to keep keep.start)
      (inputs_more g.0 ms m ∙ ap (λ b. inputs_under g.0 ms ++ cond b (m.1 ∷ []) []) e)
      ∙ come_more keep.start (inputs_under g.0 ms) m.1
      ∙ ap (option_and_then (λ y. keep.add y m.1)) has
      ∙ added

  has_first : (ms : List Member) (m : Member) (x : X) → inputs_under m.0 ms ≡ []
      → keep.add keep.start m.1 ≡ Some x → Has (ms ++ m ∷ []) (m.0, x)
  has_first ms m x none added =
      ap (come_to keep keep.start)
      (inputs_more m.0 ms m
      ∙ ap (λ b. inputs_under m.0 ms ++ cond b (m.1 ∷ []) []) (lists_same.refl m.0)
      ∙ ap (λ l. l ++ m.1 ∷ []) none)
      ∙ settled (keep.add keep.start m.1)
      ∙ added

  all_still : (ms : List Member) (m : Member) (gs : List (Group X)) → AllByRecursion (Has ms) gs
      → is_there m.0 (keys_of gs) ≡ false → AllByRecursion (Has (ms ++ m ∷ [])) gs
  all_still ms m [] all e = tt
  all_still ms m (g ∷ gs) all e = let h =
      neither (same_values m.0 g.0) (is_there m.0 (keys_of gs)) e in
      (has_still ms m g all.0 h.0, all_still ms m gs all.1 h.1)

  abbrev Put : List Member → Member → List (Group X) → List (Group X) → Type 0
  Put ms m gs hs = AllByRecursion (Has (ms ++ m ∷ [])) hs × (keys_of hs ≡ with_new (keys_of gs) m.0)

  new_behind : (k l : List Value) (ks : List (List Value)) → same_values k l ≡ false
      → l ∷ with_new ks k ≡ with_new (l ∷ ks) k
  new_behind k l ks e =
      by (is_there k ks) ∙ sym (ap (λ b. cond (b || is_there k ks) (l ∷ ks) (l ∷ ks ++ k ∷ [])) e)
    where
      by : (b : Bool) → l ∷ cond b ks (ks ++ k ∷ []) ≡ cond b (l ∷ ks) (l ∷ ks ++ k ∷ [])
      by true = refl
      by false = refl

  is_put : (ms : List Member) (m : Member) (gs hs : List (Group X)) → AllByRecursion (Has ms) gs
      → Apart (keys_of gs) → (is_there m.0 (keys_of gs) ≡ false → inputs_under m.0 ms ≡ [])
      → put keep gs m.0 m.1 ≡ Some hs → Put ms m gs hs
  is_put ms m [] hs all apart none e = by (keep.add keep.start m.1) refl e
    where
      by : (o : Option X) → keep.add keep.start m.1 ≡ o → group_if m.0 o [] ≡ Some hs
          → Put ms m [] hs
      by None added e = cc
      by (Some x) added e = let same : (m.0, x) ∷ [] ≡ hs = cc in
          subst (Put ms m []) same ((has_first ms m x (none refl) added, tt), refl)
  is_put ms m (g ∷ gs) hs all apart none e =
      by (same_values m.0 g.0) refl e
      (λ s ks f. is_put ms m gs ks all.1 apart.1
      (λ a. none (ap (λ b. b || is_there m.0 (keys_of gs)) s ∙ a)) f)
    where
      here : same_values m.0 g.0 ≡ true → (o : Option X) → keep.add g.1 m.1 ≡ o
          → group_if g.0 o gs ≡ Some hs → Put ms m (g ∷ gs) hs
      here s None added e = cc
      here s (Some x) added e =
          let same : (g.0, x) ∷ gs ≡ hs = cc in
          subst (Put ms m (g ∷ gs)) same (
            (
              has_more ms m g x all.0 s added,
              all_still ms m gs all.1
                  (same_are_there m.0 g.0 s (keys_of gs) ∙ apart.0),
            ),
            sym (ap (λ b. cond (b || is_there m.0 (keys_of gs)) (keys_of (g ∷ gs))
                (keys_of (g ∷ gs) ++ m.0 ∷ [])) s),
          )

      on : same_values m.0 g.0 ≡ false → (o : Option (List (Group X))) → put keep gs m.0 m.1 ≡ o
          → cons_if (Some g) o ≡ Some hs
          → ((ks : List (Group X)) → put keep gs m.0 m.1 ≡ Some ks → Put ms m gs ks)
          → Put ms m (g ∷ gs) hs
      on s None f e rest = cc
      on s (Some ks) f e rest =
          let same : g ∷ ks ≡ hs = cc in
          let behind = rest ks f in
          subst (Put ms m (g ∷ gs)) same (
            (has_still ms m g all.0 s, behind.0),
            ap (λ l. g.0 ∷ l) behind.1
                ∙ new_behind m.0 g.0 (keys_of gs) s,
          )

      by : (b : Bool) → same_values m.0 g.0 ≡ b
          → cond b (group_if g.0 (keep.add g.1 m.1) gs) (cons_if (Some g) (put keep gs m.0 m.1))
          ≡ Some hs
          → (same_values m.0 g.0 ≡ false → (ks : List (Group X)) → put keep gs m.0 m.1 ≡ Some ks
          → Put ms m gs ks) → Put ms m (g ∷ gs) hs
      by true s e rest = here s (keep.add g.1 m.1) refl e
      by false s e rest = on s (put keep gs m.0 m.1) refl e (rest s)

  record Grown (ms : List Member) (gs : List (Group X)) : Type 0 where
    keys : keys_of gs ≡ each_once [] (keys_in ms)
    each : AllByRecursion (Has ms) gs
    apart : Apart (keys_of gs)
    there : AreThere (keys_of gs) ms

  one_more : (ms : List Member) (m : Member) (gs hs : List (Group X)) → Grown ms gs
      → put keep gs m.0 m.1 ≡ Some hs → Grown (ms ++ m ∷ []) hs
  one_more ms m gs hs grown e =
      let is = is_put ms m gs hs grown.each grown.apart
      (λ a. absent m.0 (keys_of gs) ms grown.there a) e in
      record {
        keys = is.1 ∙ ap (λ ks. with_new ks m.0) grown.keys ∙ sym (once_more [] (keys_in ms) m.0)
            ∙ sym (ap (each_once []) (keys_more ms m));
        each = is.0;
        apart = subst Apart (sym is.1) (apart_with m.0 (keys_of gs) grown.apart);
        there = subst (λ ks. AreThere ks (ms ++ m ∷ [])) (sym is.1)
            (there_with (keys_of gs) ms m grown.there);
      }

  regroup : (ms : List Member) (m : Member) (more : List Member)
      → (ms ++ m ∷ []) ++ more ≡ ms ++ m ∷ more
  regroup [] m more = refl
  regroup (d ∷ ms) m more = ap (λ l. d ∷ l) (regroup ms m more)

  all_put : (more ms : List Member) (gs hs : List (Group X)) → Grown ms gs
      → put_all keep gs more ≡ Some hs → Grown (ms ++ more) hs
  all_put [] ms gs hs grown e = let same : gs ≡ hs = cc in
      subst (λ l. Grown l hs) (sym (append-nil ms)) (subst (Grown ms) same grown)
  all_put (m ∷ more) ms gs hs grown e =
      by (put keep gs m.0 m.1) refl e (λ ks grown e. all_put more (ms ++ m ∷ []) ks hs grown e)
    where
      by : (o : Option (List (Group X))) → put keep gs m.0 m.1 ≡ o
          → option_and_then (λ ks. put_all keep ks more) o ≡ Some hs
          → ((ks : List (Group X)) → Grown (ms ++ m ∷ []) ks → put_all keep ks more ≡ Some hs
          → Grown ((ms ++ m ∷ []) ++ more) hs) → Grown (ms ++ m ∷ more) hs
      by None f e rest = cc
      by (Some ks) f e rest =
          subst (λ l. Grown l hs) (regroup ms m more) (rest ks (one_more ms m gs ks grown f) e)

  pub are_groups : (members : List Member) (groups : List (Group X))
      → put_all keep [] members ≡ Some groups → AreGroups keep members groups
  are_groups members groups e =
      let none : Grown [] [] = record { keys = refl; each = tt; apart = tt; there = tt } in
      let grown = all_put members [] [] groups none e in
      record { keys = grown.keys; each = grown.each }
