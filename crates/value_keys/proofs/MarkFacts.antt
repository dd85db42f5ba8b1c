-- In an inventory each key stands once, so the marks of all entries add up to those of all keys.
use Rattle.std.proofs.Common.{◌≡◌, ◌<◌, ℕ, ◌+◌, ◌%◌, ◌^◌, false, cond, ◌||◌, List, []}
use Rattle.std.proofs.Common.{◌∷◌, ℤ, refl, sym, ap, ap₂, ◌∙◌, arith}
use Rattle.std.proofs.Math.Nat.{mod-add-mod}
use Rattle.std.specs.List.{AllByRecursion, list_any}
use Rattle.bean_lots.specs.Inventory.{DiffersFrom, IsInventory, position_of}
use Rattle.bean_lots.specs.Lot.{same_key}
use Rattle.bean_lots.specs.declared.lot.Key.{Key}
use Rattle.bean_lots.specs.declared.lot.Position.{Position}
use Rattle.value_hashes.proofs.BagFacts.{nothing_more, turned}
use Rattle.value_hashes.specs.Fed.{mark_of, marks_beside}

-- the marks of all entries
abbrev pub marks_in : ℕ → List Position → ℕ
marks_in places [] = 0
marks_in places (e ∷ es) = mark_of places e.key e.count + marks_in places es

abbrev AreNew : List Key → List Position → Type 0
AreNew ks es = AllByRecursion {X = Position} (λ e. list_any (same_key e.key) ks ≡ false) es

still_new : (k : Key) (ks : List Key) (es : List Position) → AllByRecursion (DiffersFrom k) es
    → AreNew ks es → AreNew (k ∷ ks) es
still_new k ks [] others new = tt
still_new k ks (e ∷ es) (other, others) (new, news) = (
  ap (λ t. t || list_any (same_key e.key) ks) (turned e.key k false other) ∙ new,
  still_new k ks es others news,
)

all_new : (es : List Position) → AreNew [] es
all_new [] = tt
all_new (e ∷ es) = (refl, all_new es)

each_stands : (p : ℕ) (ks : List Key) (es : List Position) → IsInventory es → AreNew ks es
    → marks_beside p ks es ≡ marks_in p es
each_stands p ks [] own new = refl
each_stands p ks (e ∷ es) (some, others, own) (new, news) =
    ap₂ ◌+◌ (ap (λ t. cond t 0 (mark_of p e.key e.count)) new)
    (each_stands p (e.key ∷ ks) es own (still_new e.key ks es others news))

pub each_once : (p : ℕ) (es : List Position) → IsInventory es
    → marks_beside p [] es ≡ marks_in p es
each_once p es own = each_stands p [] es own (all_new es)

-- the sum so far and the marks of the rest
pub one_more : (p : ℕ) (sum mark new all : ℕ) (es rest : List Position) (k : Key) (n : ℤ)
    → es ≡ position_of k n ∷ rest → mark ≡ mark_of p k n → new ≡ (sum + mark) % 2 ^ 64
    → (sum + marks_in p es) % 2 ^ 64 ≡ all → (new + marks_in p rest) % 2 ^ 64 ≡ all
one_more p sum mark new all es rest k n is own taken so_far =
    ap (λ n. (n + marks_in p rest) % 2 ^ 64) taken
    ∙ mod-add-mod (sum + mark) (2 ^ 64) (marks_in p rest)
    ∙ ap (λ n. n % 2 ^ 64) (together sum mark (marks_in p rest))
    ∙ ap (λ m. (sum + (m + marks_in p rest)) % 2 ^ 64) own
    ∙ ap (λ es. (sum + marks_in p es) % 2 ^ 64) (sym is) ∙ so_far
  where
    together : (a b c : ℕ) → a + b + c ≡ a + (b + c)
    together a b c = omega arith

pub at_first : (p : ℕ) (es rest : List Position) → IsInventory es → rest ≡ es
    → (0 + marks_in p rest) % 2 ^ 64 ≡ marks_beside p [] es % 2 ^ 64
at_first p es rest own is =
    ap (λ n. n % 2 ^ 64)
    (nothing_more (marks_in p rest) ∙ ap (marks_in p) is ∙ sym (each_once p es own))

pub at_last : (p : ℕ) (sum all : ℕ) (es : List Position) → es ≡ [] → sum < 2 ^ 64
    → (sum + marks_in p es) % 2 ^ 64 ≡ all → sum ≡ all
at_last p sum all es none small so_far =
    sym (ap (λ es. (sum + marks_in p es) % 2 ^ 64) none ∙ itself sum small) ∙ so_far
  where
    itself : (n : ℕ) → n < 2 ^ 64 → (n + 0) % 2 ^ 64 ≡ n
    itself n h = omega (arith, h)
