-- Counts that lie beside their keys.
use Rattle.std.proofs.Common.{◌≡◌, ◌+◌, ◌<◌, ◌≤◌, ℕ, zero, suc, ℤ, pos, neg_ℤ, ◌+ℤ◌, Bool, true, false, cond}
use Rattle.std.proofs.Common.{List, [], ◌∷◌, ◌++◌, map, length, take, drop, refl, sym, ap, ap₂, ◌∙◌}
use Rattle.std.proofs.Common.{Option, Some, None, arith, add-one, get_or, set, slice_get, subst}
use Rattle.std.proofs.lemmas.Int.{ints}
use Rattle.std.proofs.lemmas.List.{drop_more, map-append, take_more, take_more_set}
use Rattle.std.proofs.lemmas.List.{length-take-le}
use Rattle.std.specs.List.{AllByRecursion}
use Rattle.std.specs.Map.{keys_of, values_of}
use Rattle.std.specs.Ordering.{int_eq}
use Rattle.indexmap.specs.IndexMap.{set_value_at}
use Rattle.theory.specs.Arrangement.{arranged_by, put_by}
use Rattle.bean_lots.specs.Inventory.{DiffersFrom, IsInventory, added, count_of, held_as}
use Rattle.bean_lots.specs.Inventory.{negative_entry, position_of}
use Rattle.bean_lots.specs.Lot.{same_key}
use Rattle.bean_lots.specs.Slots.{positions}
use Rattle.bean_lots.specs.declared.lot.Key.{Key}
use Rattle.bean_lots.specs.declared.lot.Position.{Position}
use Rattle.bean_lots.proofs.LotFacts.{same_key_equiv}
use Rattle.bean_lots.proofs.SlotFacts.{same_some}
use Rattle.query_holdings.specs.Entries.{comes_before, in_order}
use Rattle.query_holdings.specs.Kept.{AreKeys, held_in}
use Rattle.query_holdings.specs.Placed.{entry_in, in_key_order, is_before, placed_from}

abbrev pub IsFull : ℤ → Type 0
IsFull n = int_eq n (pos 0) ≡ false

-- full slots hold what their keys hold with their counts, whatever stands behind these
pub all_full : (es : List (Key × ℤ)) (ns : List ℤ) → take (length es) ns ≡ values_of es
    → AllByRecursion IsFull (values_of es) → held_in (keys_of es) ns ≡ positions es
all_full [] ns same full = refl
all_full (e ∷ es) [] same full = cc
all_full (e ∷ es) (n ∷ ns) same full =
    let head : n ≡ e.1 = cc in
    let tail : take (length es) ns ≡ values_of es = cc in
    ap₂ (λ m l. position_of e.0 m ∷ l) head (all_full es ns tail full.1)
    ∙ sym (ap (λ c. cond c [] (position_of e.0 e.1 ∷ []) ++ positions es) full.0)

-- a count that changes changes no key
pub same_keys : (es : List (Key × ℤ)) (i : ℕ) (n : ℤ) → keys_of (set_value_at es i n) ≡ keys_of es
same_keys [] i n = refl
same_keys (e ∷ es) zero n = refl
same_keys (e ∷ es) (suc i) n = ap (λ l. e.0 ∷ l) (same_keys es i n)

pub still_keys : (shared : Option (List Key)) (es new : List (Key × ℤ)) → keys_of new ≡ keys_of es
    → AreKeys shared es → AreKeys shared new
still_keys None es new same are = tt
still_keys (Some ks) es new same are = are ∙ sym same

-- a slot more
key_next : (es : List (Key × ℤ)) (i : ℕ) (k : Key) (n : ℤ) → slice_get es i ≡ Some (k, n)
    → keys_of (take (suc i) es) ≡ keys_of (take i es) ++ k ∷ []
key_next [] i k n at = cc
key_next (e ∷ es) zero k n at = ap (λ (x : Key × ℤ). x.0 ∷ []) (same_some e (k, n) at)
key_next (e ∷ es) (suc i) k n at = ap (λ l. e.0 ∷ l) (key_next es i k n at)

pub key_more : (es : List (Key × ℤ)) (i : ℕ) (k : Key) (n : ℤ) → slice_get es i ≡ Some (k, n)
    → keys_of (take (i + 1) es) ≡ keys_of (take i es) ++ k ∷ []
key_more es i k n at = rw add-one (key_next es i k n at)

value_next : (es : List (Key × ℤ)) (i : ℕ) (k : Key) (n : ℤ) → slice_get es i ≡ Some (k, n)
    → values_of (take (suc i) es) ≡ values_of (take i es) ++ n ∷ []
value_next [] i k n at = cc
value_next (e ∷ es) zero k n at = ap (λ (x : Key × ℤ). x.1 ∷ []) (same_some e (k, n) at)
value_next (e ∷ es) (suc i) k n at = ap (λ l. e.1 ∷ l) (value_next es i k n at)

value_more : (es : List (Key × ℤ)) (i : ℕ) (k : Key) (n : ℤ) → slice_get es i ≡ Some (k, n)
    → values_of (take (i + 1) es) ≡ values_of (take i es) ++ n ∷ []
value_more es i k n at = rw add-one (value_next es i k n at)

-- its count is written where it is in front of the others
pub written_more : (es : List (Key × ℤ)) (ns : List ℤ) (i : ℕ) (k : Key) (n m : ℤ) → i < length ns
    → slice_get es i ≡ Some (k, n) → m ≡ n → take i ns ≡ values_of (take i es)
    → take (i + 1) (set ns i m) ≡ values_of (take (i + 1) es)
written_more es ns i k n m within at is so_far =
    take_more_set ns i m within ∙ ap₂ (λ l x. l ++ x ∷ []) so_far is ∙ sym (value_more es i k n at)

full_behind : (ns : List ℤ) (n : ℤ) → AllByRecursion IsFull ns → IsFull n
    → AllByRecursion IsFull (ns ++ n ∷ [])
full_behind [] n all own = (own, tt)
full_behind (m ∷ ns) n all own = (all.0, full_behind ns n all.1 own)

pub full_more : (es : List (Key × ℤ)) (i : ℕ) (k : Key) (n m : ℤ) → slice_get es i ≡ Some (k, n)
    → m ≡ n → IsFull m → AllByRecursion IsFull (values_of (take i es))
    → AllByRecursion IsFull (values_of (take (i + 1) es))
full_more es i k n m at is own all =
    subst (AllByRecursion IsFull) (sym (value_more es i k n at))
    (full_behind (values_of (take i es)) n all (subst IsFull is own))

-- and so is one of the other sign
pub turned_more : (cs ts : List ℤ) (i : ℕ) (n m : ℤ) → i < length cs → i < length ts
    → n ≡ get_or cs i n → m ≡ neg_ℤ n → take i ts ≡ map neg_ℤ (take i cs)
    → take (i + 1) (set ts i m) ≡ map neg_ℤ (take (i + 1) cs)
turned_more cs ts i n m within room at is so_far =
    take_more_set ts i m room
    ∙ ap₂ (λ l x. l ++ x ∷ []) so_far (is ∙ ap neg_ℤ at)
    ∙ sym (map-append neg_ℤ (take i cs) (get_or cs i n ∷ []))
    ∙ sym (ap (map neg_ℤ) (take_more cs i n within))

pub turned_held : (ks : List Key) (ns : List ℤ)
    → held_in ks (map neg_ℤ ns) ≡ map negative_entry (held_in ks ns)
turned_held [] ns = refl
turned_held (k ∷ ks) [] = refl
turned_held (k ∷ ks) (n ∷ ns) = ap (λ l. position_of k (neg_ℤ n) ∷ l) (turned_held ks ns)

still_full : (n : ℤ) → IsFull n → IsFull (neg_ℤ n)
still_full n h = grind (arith, ints)

still_differ : (k : Key) (es : List Position) → AllByRecursion (DiffersFrom k) es
    → AllByRecursion (DiffersFrom k) (map negative_entry es)
still_differ k [] h = tt
still_differ k (e ∷ es) h = (h.0, still_differ k es h.1)

pub turned_inventory : (es : List Position) → IsInventory es → IsInventory (map negative_entry es)
turned_inventory [] h = tt
turned_inventory (e ∷ es) (full, others, own) =
    (still_full e.count full, still_differ e.key es others, turned_inventory es own)

differs_at : (k : Key) (es more : List Position) (e : Position)
    → AllByRecursion (DiffersFrom k) (es ++ e ∷ more) → same_key k e.key ≡ false
differs_at k [] more e h = h.0
differs_at k (x ∷ es) more e h = differs_at k es more e h.1

-- in front of an entry its key isn't held
pub not_yet : (es more : List Position) (e : Position) → IsInventory (es ++ e ∷ more)
    → count_of es e.key ≡ pos 0
not_yet [] more e h = refl
not_yet (x ∷ es) more e (full, others, own) =
    ap (λ b. cond b x.count (count_of es e.key))
    (same_key_equiv.symm e.key x.key ∙ differs_at x.key es more e others)
    ∙ not_yet es more e own

-- so it goes behind them
pub goes_last : (es more : List Position) (e : Position) → IsInventory (es ++ e ∷ more)
    → added es e.key e.count ≡ es ++ e ∷ []
goes_last [] more e h = ap (λ c. cond c [] (e ∷ [])) h.0
goes_last (x ∷ es) more e (full, others, own) =
    ap (λ b. cond b (held_as x.key (x.count +ℤ e.count) ++ es) (x ∷ added es e.key e.count))
    (same_key_equiv.symm e.key x.key ∙ differs_at x.key es more e others)
    ∙ ap (λ l. x ∷ l) (goes_last es more e own)

placed_behind : (ks : List Key) (k : Key) (i : ℕ)
    → placed_from i (ks ++ k ∷ []) ≡ placed_from i ks ++ record { key = k; place = i + length ks } ∷ []
placed_behind [] k i = ap (λ n. record { key = k; place = n } ∷ []) (nothing_more i)
  where
    nothing_more : (n : ℕ) → n ≡ n + 0
    nothing_more n = omega arith
placed_behind (q ∷ ks) k i =
    ap (λ l. record { key = q; place = i } ∷ l)
    (placed_behind ks k (suc i)
    ∙ ap (λ n. placed_from (suc i) ks ++ record { key = k; place = n } ∷ []) (moved i (length ks)))
  where
    moved : (n m : ℕ) → suc n + m ≡ n + suc m
    moved n m = omega arith

-- a key more
pub placed_more : (ks : List Key) (i : ℕ) (k : Key) → i < length ks → k ≡ get_or ks i k
    → placed_from 0 (take (i + 1) ks)
    ≡ placed_from 0 (take i ks) ++ record { key = k; place = i } ∷ []
placed_more ks i k within at =
    ap (placed_from 0) (take_more ks i k within ∙ ap (λ q. take i ks ++ q ∷ []) (sym at))
    ∙ placed_behind (take i ks) k 0
    ∙ ap (λ n. placed_from 0 (take i ks) ++ record { key = k; place = n } ∷ [])
    (front (length (take i ks)) ∙ length-take-le i ks (omega (arith, within)))
  where
    front : (n : ℕ) → 0 + n ≡ n
    front n = omega arith

-- what is arranged and then told is told and then arranged
put_told : {X Y : Type 0} (f : X → Y) (b : X → X → Bool) (c : Y → Y → Bool)
    → ((x y : X) → c (f x) (f y) ≡ b x y) → (x : X) (ys : List X)
    → map f (put_by b x ys) ≡ put_by c (f x) (map f ys)
put_told f b c same x [] = refl
put_told {X} f b c same x (y ∷ ys) =
    by (b y x) (same y x) (put_told f b c same x ys)
  where
    by : (t : Bool) → c (f y) (f x) ≡ t → map f (put_by b x ys) ≡ put_by c (f x) (map f ys)
        → map f (cond t (y ∷ put_by b x ys) (x ∷ y ∷ ys))
        ≡ put_by c (f x) (f y ∷ map f ys)
    by true t rest =
        ap (λ l. f y ∷ l) rest
        ∙ sym (ap (λ s. cond s (f y ∷ put_by c (f x) (map f ys)) (f x ∷ f y ∷ map f ys)) t)
    by false t rest =
        sym (ap (λ s. cond s (f y ∷ put_by c (f x) (map f ys)) (f x ∷ f y ∷ map f ys)) t)

arranged_told : {X Y : Type 0} (f : X → Y) (b : X → X → Bool) (c : Y → Y → Bool)
    → ((x y : X) → c (f x) (f y) ≡ b x y) → (xs : List X)
    → map f (arranged_by b xs) ≡ arranged_by c (map f xs)
arranged_told f b c same [] = refl
arranged_told f b c same (x ∷ xs) =
    put_told f b c same x (arranged_by b xs)
    ∙ ap (put_by c (f x)) (arranged_told f b c same xs)

-- keys with their places tell what is held
placed_held : (ks : List Key) (ns : List ℤ) (i : ℕ) → i + length ks ≤ length ns
    → map (entry_in ns) (placed_from i ks) ≡ held_in ks (drop i ns)
placed_held [] ns i few = refl
placed_held (k ∷ ks) ns i few =
    ap (λ l. entry_in ns (record { key = k; place = i }) ∷ l)
    (placed_held ks ns (suc i) (omega (arith, few)))
    ∙ sym (ap (held_in (k ∷ ks)) (rw add-one at (drop_more ns i (pos 0) (omega (arith, few)))))

pub held_in_order : (ks : List Key) (ns : List ℤ) → length ks ≤ length ns
    → map (entry_in ns) (in_key_order (placed_from 0 ks)) ≡ in_order (held_in ks ns)
held_in_order ks ns few =
    arranged_told (entry_in ns) is_before comes_before (λ x y. refl) (placed_from 0 ks)
    ∙ ap in_order (placed_held ks ns 0 (omega (arith, few)))
