-- Counts after one more addition.
use Rattle.std.proofs.Common.{◌≡◌, ℕ, ◌+◌, ◌*◌, ◌<◌, ◌≤◌, ◌^◌, ℤ, pos, ◌+ℤ◌, ◌&&◌, Bool, true, false}
use Rattle.std.proofs.Common.{cond, List, [], ◌∷◌, ◌++◌, refl, sym, ap, subst, ◌∙◌, arith}
use Rattle.std.specs.Int.{w128}
use Rattle.std.specs.Int.RustNames.{unsigned_abs, FitsSigned}
use Rattle.std.specs.Option.{is_some}
use Rattle.std.specs.Ordering.{int_eq}
use Rattle.std.specs.Str.{bytes_eq}
use Rattle.std.proofs.lemmas.Slice.Eq.{bytes_eq-Decides}
use Rattle.std.proofs.lemmas.Int.{ints}
use Rattle.bean_base.specs.declared.num.Num.{Num}
use Rattle.bean_base.proofs.PowerFacts.{scaled_lt}
use Rattle.bean_lots.specs.Inventory.{IsInventory, added, count_of, held_as}
use Rattle.bean_lots.specs.Lot.{same_key}
use Rattle.bean_lots.specs.declared.lot.Key.{Key}
use Rattle.bean_lots.specs.declared.lot.Position.{Position}
use Rattle.bean_lots.proofs.InventoryFacts.{kept}
use Rattle.bean_reductions.specs.After.{AreSmall}
use Rattle.bean_reductions.proofs.AfterFacts.{count_small}
use Rattle.std.specs.List.{AllByRecursion}
use Rattle.bean_holdings.proofs.HeldFacts.{with_lot}
use Rattle.bean_holdings.proofs.RestFacts.{own_counts}
use Rattle.bean_base.specs.Counts.{at_8}
use Rattle.bean_holdings.specs.Held.{key_of}
use Rattle.bean_holdings.specs.Holdings.{IsBounded, holding}
use Rattle.bean_holdings.specs.Parts.{AreParts, IsPart}
use Rattle.bean_holdings.specs.declared.holdings.Holdings.{Holdings}
use Rattle.bean_holdings.specs.declared.posted.Posted.{Posted}

pub more : (n m : ℕ) (es : List Position) → n ≤ m → AreSmall n es → AreSmall m es
more n m [] le h = tt
more n m (e ∷ es) le h = (omega (arith, h.0), more n m es le h.1)

entry : (b : Bool) (m : ℕ) (k : Key) (c : ℤ) (es : List Position) → unsigned_abs c ≤ m
    → AreSmall m es → AreSmall m (cond b [] (record { key = k; count = c } ∷ []) ++ es)
entry true m k c es s h = h
entry false m k c es s h = (s, h)

here : (b : Bool) (n m : ℕ) (e : Position) (k : Key) (c : ℤ) (es : List Position)
    → unsigned_abs c ≤ m → unsigned_abs e.count ≤ n → AreSmall n es
    → AreSmall (n + m) (added es k c)
    → AreSmall (n + m) (cond b (held_as e.key (e.count +ℤ c) ++ es) (e ∷ added es k c))
here true n m e k c es s p h rest =
    entry (int_eq (e.count +ℤ c) (pos 0)) (n + m) e.key (e.count +ℤ c) es (omega (arith, ints))
    (more n (n + m) es (omega arith) h)
here false n m e k c es s p h rest = (omega (arith, p), rest)

new : (b : Bool) (n m : ℕ) (k : Key) (c : ℤ) → unsigned_abs c ≤ m
    → AreSmall (n + m) (cond b [] (record { key = k; count = c } ∷ []))
new true n m k c s = tt
new false n m k c s = (omega (arith, s), tt)

pub one_more : (n m : ℕ) (es : List Position) (k : Key) (c : ℤ) → unsigned_abs c ≤ m
    → AreSmall n es → AreSmall (n + m) (added es k c)
one_more n m [] k c s h = new (int_eq c (pos 0)) n m k c s
one_more n m (e ∷ es) k c s h =
    here (same_key k e.key) n m e k c es s h.0 h.1 (one_more n m es k c s h.1)

pub sum_fits : (n : ℕ) (a b c : ℤ) → n < 2 ^ 40 → unsigned_abs a ≤ n * 10 ^ 20
    → unsigned_abs b < 10 ^ 20 → c ≡ b → FitsSigned w128 (a +ℤ c)
sum_fits n a b c few h s is = omega (arith, ints)

pub either : (b : Bool) (n : ℕ) (es : List Position) (k : Key) (c : ℤ)
    → unsigned_abs c < 10 ^ 20 → AreSmall (n * 10 ^ 20) es
    → AreSmall ((n + 1) * 10 ^ 20) (cond b (added es k c) es)
either true n es k c s h =
    more (n * 10 ^ 20 + 10 ^ 20) ((n + 1) * 10 ^ 20) (added es k c) (omega arith) (one_more
    (n * 10 ^ 20) (10 ^ 20) es k c (omega (arith, s)) h)
either false n es k c s h = more (n * 10 ^ 20) ((n + 1) * 10 ^ 20) es (omega arith) h

pub kept_at : (b : Bool) (es : List Position) (k : Key) (n : ℤ) → IsInventory es
    → IsInventory (cond b (added es k n) es)
kept_at true es k n i = kept es k n i
kept_at false es k n i = i

pub at_8_small : (n : Num) → unsigned_abs (at_8 n) < 10 ^ 20
at_8_small n = scaled_lt n.count n.places 8 n.in_range.1 n.in_range.0 (omega arith)

-- an addition to the inventory of one account, where the others stay
pub added_at : (f : List ℕ → List Position) (name a : List ℕ) (own new now : List Position)
    (k : Key) (c d : ℤ) → own ≡ f name → new ≡ added own k d → d ≡ c
    → now ≡ cond (bytes_eq name a) new (f a)
    → now ≡ cond (bytes_eq name a) (added (f a) k c) (f a)
added_at f name a own new now k c d o p e i = i ∙ by (bytes_eq name a) refl
  where
    by : (b : Bool) → bytes_eq name a ≡ b → cond b new (f a) ≡ cond b (added (f a) k c) (f a)
    by true s = p ∙ ap (λ n. added own k n) e ∙ ap (λ es. added es k c) (o
        ∙ ap f ((bytes_eq-Decides name a).0 s))
    by false s = refl

-- of one more posting the lot is held
pub one_posting_more : (p : Posted) (g h : Holdings) → h.additions ≡ g.additions + 1
    → ((a : List ℕ) → holding h a ≡ with_lot p a (holding g a)) → IsBounded g → IsBounded h
one_posting_more p g h count more b = record {
  inventories = λ a.
      subst IsInventory (sym (more a))
      (kept_at (bytes_eq p.account a && is_some p.lot) (holding g a) (key_of p)
      (at_8 p.units.number) (b.inventories a));
  counts = λ a.
      subst (λ n. AreSmall (n * 10 ^ 20) (holding h a)) (sym count)
      (subst (AreSmall ((g.additions + 1) * 10 ^ 20)) (sym (more a))
      (either (bytes_eq p.account a && is_some p.lot) g.additions (holding g a) (key_of p)
      (at_8 p.units.number) (at_8_small p.units.number) (b.counts a)));
}

pub bounded_small : (h : Holdings) (a : List ℕ) → IsBounded h → h.additions ≤ 2 ^ 40
    → AreSmall (2 ^ 125) (holding h a)
bounded_small h a b few =
    more (h.additions * 10 ^ 20) (2 ^ 125) (holding h a) (omega (arith, few)) (b.counts a)

-- ---- what is taken

-- each position has the count under its key
small_each : (n : ℕ) (es fs : List Position) → IsInventory es
    → ((k : Key) → unsigned_abs (count_of fs k) ≤ n)
    → AllByRecursion (λ (e : Position). count_of fs e.key ≡ e.count) es → AreSmall n es
small_each n [] fs i h own = tt
small_each n (e ∷ es) fs i h own =
    (subst (λ m. unsigned_abs m ≤ n) own.0 (h e.key), small_each n es fs i.2 h own.1)

-- no more is taken under a key than is held
part_small : (n : ℕ) (h t : ℤ) → IsPart h t → unsigned_abs h ≤ n → unsigned_abs t ≤ n
part_small n h t part small = omega (arith, part, small)

pub parts_small : (n : ℕ) (es ts : List Position) → IsInventory ts → AreParts es ts → AreSmall n es
    → AreSmall n ts
parts_small n es ts i parts small =
    small_each n ts ts i
    (λ k. part_small n (count_of es k) (count_of ts k) (parts.each k) (count_small n es k small))
    (own_counts ts i)
