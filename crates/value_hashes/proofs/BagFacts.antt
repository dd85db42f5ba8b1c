-- Inventories that are the same have one sum of marks.
use Rattle.std.proofs.Common.{◌≡◌, ℕ, ◌+◌, pos, Bool, true, false, cond, ◌||◌, List, []}
use Rattle.std.proofs.Common.{◌∷◌, map, refl, sym, ap, ap₂, ◌∙◌, arith}
use Rattle.std.proofs.lemmas.Bool.{and_parts}
use Rattle.std.specs.List.{AllByRecursion, list_all, list_any}
use Rattle.bean_lots.proofs.LotFacts.{same_key_Decides}
use Rattle.bean_lots.specs.Inventory.{count_of}
use Rattle.bean_lots.specs.Lot.{same_key}
use Rattle.bean_lots.specs.declared.lot.Key.{Key}
use Rattle.bean_lots.specs.declared.lot.Position.{Position}
use Rattle.query_values.specs.Equality.{agree_at, same_bag, same_number}
use Rattle.query_bags.specs.declared.bag.Bag.{Bag}
use Rattle.value_hashes.proofs.NumberFacts.{least_alike, nothing_left}
use Rattle.value_hashes.specs.Fed.{mark_by, mark_of, marks_beside}

-- ---- keys that were passed

abbrev is_in : Key → List Key → Bool
is_in k ks = list_any (same_key k) ks

itself : (k : Key) → same_key k k ≡ true
itself k = (same_key_Decides k k).1 refl

pub turned : (j k : Key) (b : Bool) → same_key k j ≡ b → same_key j k ≡ b
turned j k true h = ap (λ x. same_key x k) (sym ((same_key_Decides k j).0 h)) ∙ itself k
turned j k false h = from (same_key j k) refl
  where
    from : (t : Bool) → same_key j k ≡ t → same_key j k ≡ false
    from false e = e
    from true e = e ∙ sym (itself j) ∙ ap (λ x. same_key x j) ((same_key_Decides j k).0 e) ∙ h

-- one that was passed may be passed again
again : (k : Key) (ks : List Key) → is_in k ks ≡ true → (q : Key) → is_in q ks ≡ is_in q (k ∷ ks)
again k ks h q = by (same_key q k) refl
  where
    by : (t : Bool) → same_key q k ≡ t → is_in q ks ≡ is_in q (k ∷ ks)
    by true e =
        ap (λ x. is_in x ks) ((same_key_Decides q k).0 e) ∙ h
        ∙ sym (ap (λ t. t || is_in q ks) e)
    by false e = sym (ap (λ t. t || is_in q ks) e)

swapped : (j k : Key) (ks : List Key) (q : Key) → is_in q (j ∷ k ∷ ks) ≡ is_in q (k ∷ j ∷ ks)
swapped j k ks q = by (same_key q j) (same_key q k) (is_in q ks)
  where
    by : (a b c : Bool) → (a || (b || c)) ≡ (b || (a || c))
    by true true c = refl
    by true false c = refl
    by false true c = refl
    by false false c = refl

either : (a b : Bool) → b ≡ true → (a || b) ≡ true
either true b h = refl
either false b h = h

-- what was passed alone matters
beside_alike : (p : ℕ) (js ks : List Key) (es : List Position)
    → ((q : Key) → is_in q js ≡ is_in q ks) → marks_beside p js es ≡ marks_beside p ks es
beside_alike p js ks [] h = refl
beside_alike p js ks (e ∷ es) h =
    ap₂ ◌+◌ (ap (λ t. cond t 0 (mark_of p e.key e.count)) (h e.key))
    (beside_alike p (e.key ∷ js) (e.key ∷ ks) es (λ q. ap (λ t. same_key q e.key || t) (h q)))

-- ---- one key by itself

no_mark : (p : ℕ) (k : Key) → mark_of p k (pos 0) ≡ 0
no_mark p k = ap (mark_by k) (nothing_left p)

pub nothing_more : (n : ℕ) → 0 + n ≡ n
nothing_more n = omega arith

exchanged : (a b c : ℕ) → a + (b + c) ≡ b + (a + c)
exchanged a b c = omega arith

apart : (p : ℕ) (k : Key) (ks : List Key) (es : List Position) → is_in k ks ≡ false
    → marks_beside p ks es ≡ mark_of p k (count_of es k) + marks_beside p (k ∷ ks) es
apart p k ks [] h = sym (ap (λ n. n + 0) (no_mark p k))
apart p k ks (e ∷ es) h = by (same_key k e.key) refl (apart p k (e.key ∷ ks) es)
  where
    own : Bool → ℕ
    own t = cond t 0 (mark_of p e.key e.count)

    by : (t : Bool) → same_key k e.key ≡ t
        → (is_in k (e.key ∷ ks) ≡ false → marks_beside p (e.key ∷ ks) es
        ≡ mark_of p k (count_of es k) + marks_beside p (k ∷ e.key ∷ ks) es)
        → marks_beside p ks (e ∷ es)
        ≡ mark_of p k (count_of (e ∷ es) k) + marks_beside p (k ∷ ks) (e ∷ es)
    by true s later =
        let is = (same_key_Decides k e.key).0 s in
        let fresh = ap (λ x. is_in x ks) (sym is) ∙ h in
        let passed = ap (λ t. t || is_in e.key ks) (turned e.key k true s) in
        let rest =
        beside_alike p (e.key ∷ ks) (e.key ∷ k ∷ ks) es
        (λ q. ap (λ x. is_in q (x ∷ ks)) (sym is)
        ∙ again k (k ∷ ks) (ap (λ t. t || is_in k ks) (itself k)) q
        ∙ ap (λ x. is_in q (x ∷ k ∷ ks)) is) in
        ap (λ t. own t + marks_beside p (e.key ∷ ks) es) fresh
        ∙ ap₂ ◌+◌
        (ap (λ x. mark_of p x e.count) (sym is)
        ∙ sym (ap (λ t. mark_of p k (cond t e.count (count_of es k))) s))
        (rest ∙ sym (nothing_more (marks_beside p (e.key ∷ k ∷ ks) es))
        ∙ sym (ap (λ t. own t + marks_beside p (e.key ∷ k ∷ ks) es) passed))
    by false s later =
        let still = ap (λ t. t || is_in k ks) s ∙ h in
        let other = ap (λ t. t || is_in e.key ks) (turned e.key k false s) in
        let g = mark_of p k (count_of es k) in
        let rest = marks_beside p (e.key ∷ k ∷ ks) es in
        ap (λ n. own (is_in e.key ks) + n)
        (later still
        ∙ ap (λ n. g + n)
        (beside_alike p (k ∷ e.key ∷ ks) (e.key ∷ k ∷ ks) es (swapped k e.key ks)))
        ∙ exchanged (own (is_in e.key ks)) g rest
        ∙ ap₂ ◌+◌ (sym (ap (λ t. mark_of p k (cond t e.count (count_of es k))) s))
        (ap (λ t. own t + rest) (sym other))

-- ---- all keys, one after the other

abbrev behind : List Key → List Key → List Key
behind [] passed = passed
behind (k ∷ ks) passed = behind ks (k ∷ passed)

abbrev keys_in : List Position → List Key
keys_in es = map (λ e. e.key) es

stays : (k : Key) (ks passed : List Key) → is_in k passed ≡ true → is_in k (behind ks passed) ≡ true
stays k [] passed h = h
stays k (j ∷ ks) passed h =
    stays k ks (j ∷ passed) (either (same_key k j) (is_in k passed) h)

comes : (k : Key) (ks passed : List Key) → is_in k ks ≡ true → is_in k (behind ks passed) ≡ true
comes k [] passed h = cc
comes k (j ∷ ks) passed h = by (same_key k j) refl (comes k ks (j ∷ passed))
  where
    by : (t : Bool) → same_key k j ≡ t
        → (is_in k ks ≡ true → is_in k (behind ks (j ∷ passed)) ≡ true)
        → is_in k (behind ks (j ∷ passed)) ≡ true
    by true e later = stays k ks (j ∷ passed) (ap (λ t. t || is_in k passed) e)
    by false e later = later (sym (ap (λ t. t || is_in k ks) e) ∙ h)

abbrev AreIn : List Key → List Position → Type 0
AreIn ks es = AllByRecursion {X = Position} (λ e. is_in e.key ks ≡ true) es

are_in : (es : List Position) (ks : List Key)
    → ((k : Key) → is_in k (keys_in es) ≡ true → is_in k ks ≡ true) → AreIn ks es
are_in [] ks h = tt
are_in (e ∷ es) ks h = (
  h e.key (ap (λ t. t || is_in e.key (keys_in es)) (itself e.key)),
  are_in es ks (λ k own. h k (either (same_key k e.key) (is_in k (keys_in es)) own)),
)

none_left : (p : ℕ) (ks : List Key) (es : List Position) → AreIn ks es → marks_beside p ks es ≡ 0
none_left p ks [] h = refl
none_left p ks (e ∷ es) (here, others) =
    ap (λ t. cond t 0 (mark_of p e.key e.count) + marks_beside p (e.key ∷ ks) es) here
    ∙ nothing_more (marks_beside p (e.key ∷ ks) es)
    ∙ sym (beside_alike p ks (e.key ∷ ks) es (again e.key ks here)) ∙ none_left p ks es others

abbrev Agree : ℕ → ℕ → List Position → List Position → Type 0
Agree p q a b = (k : Key) → mark_of p k (count_of a k) ≡ mark_of q k (count_of b k)

passing : (p q : ℕ) (a b : List Position) → Agree p q a b → (ks passed : List Key)
    → marks_beside p (behind ks passed) a ≡ marks_beside q (behind ks passed) b
    → marks_beside p passed a ≡ marks_beside q passed b
passing p q a b agree [] passed h = h
passing p q a b agree (k ∷ ks) passed h =
    by (is_in k passed) refl (passing p q a b agree ks (k ∷ passed) h)
  where
    by : (t : Bool) → is_in k passed ≡ t
        → marks_beside p (k ∷ passed) a ≡ marks_beside q (k ∷ passed) b
        → marks_beside p passed a ≡ marks_beside q passed b
    by true e rest =
        beside_alike p passed (k ∷ passed) a (again k passed e) ∙ rest
        ∙ sym (beside_alike q passed (k ∷ passed) b (again k passed e))
    by false e rest =
        apart p k passed a e ∙ ap₂ ◌+◌ (agree k) rest ∙ sym (apart q k passed b e)

one_sum : (p q : ℕ) (a b : List Position) → Agree p q a b
    → marks_beside p [] a ≡ marks_beside q [] b
one_sum p q a b agree =
    let first = behind (keys_in a) [] in
    let all = behind (keys_in b) first in
    let own = are_in a all (λ k h. stays k (keys_in b) first (comes k (keys_in a) [] h)) in
    let other = are_in b all (λ k h. comes k (keys_in b) first h) in
    passing p q a b agree (keys_in a) []
    (passing p q a b agree (keys_in b) first (none_left p all a own ∙ sym (none_left q all b other)))

-- ---- inventories that are the same

absent : (es : List Position) (k : Key) → is_in k (keys_in es) ≡ false → count_of es k ≡ pos 0
absent [] k h = refl
absent (e ∷ es) k h = by (same_key k e.key) refl (absent es k)
  where
    by : (t : Bool) → same_key k e.key ≡ t
        → (is_in k (keys_in es) ≡ false → count_of es k ≡ pos 0) → count_of (e ∷ es) k ≡ pos 0
    by true s later =
        let there : true ≡ false = sym (ap (λ t. t || is_in k (keys_in es)) s) ∙ h in cc
    by false s later =
        ap (λ t. cond t e.count (count_of es k)) s
        ∙ later (sym (ap (λ t. t || is_in k (keys_in es)) s) ∙ h)

found : (a b : Bag) (es : List Position) (k : Key) → list_all (agree_at a b) es ≡ true
    → is_in k (keys_in es) ≡ true
    → same_number a.places (count_of a.held k) b.places (count_of b.held k) ≡ true
found a b [] k h own = cc
found a b (e ∷ es) k h own =
    let parts = and_parts (agree_at a b e) (list_all (agree_at a b) es) h in
    by (same_key k e.key) refl parts.0 (found a b es k parts.1)
  where
    by : (t : Bool) → same_key k e.key ≡ t → agree_at a b e ≡ true
        → (is_in k (keys_in es) ≡ true
        → same_number a.places (count_of a.held k) b.places (count_of b.held k) ≡ true)
        → same_number a.places (count_of a.held k) b.places (count_of b.held k) ≡ true
    by true s here later =
        ap (λ k. same_number a.places (count_of a.held k) b.places (count_of b.held k))
        ((same_key_Decides k e.key).0 s) ∙ here
    by false s here later = later (sym (ap (λ t. t || is_in k (keys_in es)) s) ∙ own)

agreed_by : (a b : Bag) → list_all (agree_at a b) a.held ≡ true
    → list_all (agree_at a b) b.held ≡ true → (k : Key) (s t : Bool)
    → is_in k (keys_in a.held) ≡ s → is_in k (keys_in b.held) ≡ t
    → mark_of a.places k (count_of a.held k) ≡ mark_of b.places k (count_of b.held k)
agreed_by a b own other k true t s e =
    ap (mark_by k)
    (least_alike a.places (count_of a.held k) b.places (count_of b.held k)
    (found a b a.held k own s))
agreed_by a b own other k false true s e =
    ap (mark_by k)
    (least_alike a.places (count_of a.held k) b.places (count_of b.held k)
    (found a b b.held k other e))
agreed_by a b own other k false false s e =
    ap (mark_of a.places k) (absent a.held k s) ∙ no_mark a.places k ∙ sym (no_mark b.places k)
    ∙ sym (ap (mark_of b.places k) (absent b.held k e))

agreed : (a b : Bag) → same_bag a b ≡ true → Agree a.places b.places a.held b.held
agreed a b h k =
    let parts = and_parts (list_all (agree_at a b) a.held) (list_all (agree_at a b) b.held) h in
    agreed_by a b parts.0 parts.1 k (is_in k (keys_in a.held)) (is_in k (keys_in b.held)) refl refl

pub bags_alike : (a b : Bag) → same_bag a b ≡ true
    → marks_beside a.places [] a.held ≡ marks_beside b.places [] b.held
bags_alike a b h = one_sum a.places b.places a.held b.held (agreed a b h)
