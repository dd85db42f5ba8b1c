-- What a reduction takes under a key is no more than what is left under it.
use Rattle.std.proofs.Common.{◌≡◌, ◌⊎◌, inl, inr, ◌+◌, ◌-◌, ◌≤◌, ℕ, zero, suc, ℤ, pos, ◌+ℤ◌, Bool}
use Rattle.std.proofs.Common.{true, false, cond, ◌&&◌, List, [], ◌∷◌, ◌++◌, take, Option, Some, None}
use Rattle.std.proofs.Common.{refl, sym, ap, subst, ◌∙◌, arith}
use Rattle.std.specs.Cmp.{signed_Decides}
use Rattle.std.specs.Int.RustNames.{unsigned_abs}
use Rattle.std.specs.List.{AllByRecursion}
use Rattle.std.specs.Ordering.{int_eq}
use Rattle.std.proofs.lemmas.Int.{ints}
use Rattle.std.proofs.lemmas.List.Sorted.{ranks_by}
use Rattle.std.proofs.lemmas.Slice.Eq.{bytes_eq-Decides}
use Rattle.theory.specs.Arrangement.{arranged_by, by_key, put_by}
use Rattle.theory.proofs.ArrangedFacts.{is_arranged}
use Rattle.theory.proofs.ArrangementFacts.{one_by_key}
use Rattle.bean_holdings.specs.Parts.{IsPart}
use Rattle.bean_lots.specs.Inventory.{DiffersFrom, IsInventory, count_of, is_opposite}
use Rattle.bean_lots.specs.Lot.{same_key, same_text}
use Rattle.bean_lots.specs.declared.lot.Key.{Key}
use Rattle.bean_lots.specs.declared.lot.Lot.{Lot}
use Rattle.bean_lots.specs.declared.lot.Position.{Position}
use Rattle.bean_lots.proofs.LotFacts.{same_key_Decides}
use Rattle.bean_reductions.specs.After.{after}
use Rattle.bean_reductions.specs.Candidate.{agrees, candidate_of, candidates}
use Rattle.bean_reductions.specs.Reduction.{IsReduction}
use Rattle.bean_reductions.specs.Take.{IsQueue, day_of, order_of}
use Rattle.bean_reductions.specs.declared.reduction.Method.{Method}
use Rattle.bean_reductions.specs.declared.reduction.Selector.{Selector}
use Rattle.bean_reductions.proofs.InTurn.{TakesInTurn}
use Rattle.bean_reductions.proofs.ReductionFacts.{open_orders}
use Rattle.bean_reductions.proofs.TakeFacts.{to_takes}

-- ---- how much of a key candidates are, or takes of them

abbrev pub key_in : List ℕ → Lot → Key
key_in currency lot = record { currency = currency; lot = Some lot }

abbrev pub under : Key → List ℕ → List (Lot × ℕ) → ℕ
under k currency [] = 0
under k currency (c ∷ cs) = cond (same_key k (key_in currency c.0)) c.1 0 + under k currency cs

-- the same in another order

module _ (before : Lot × ℕ → Lot × ℕ → Bool) (k : Key) (currency : List ℕ) where
  put_under_by : (b : Bool) (x y : Lot × ℕ) (ys : List (Lot × ℕ))
      → under k currency (put_by before x ys) ≡ under k currency (x ∷ ys)
      → under k currency (cond b (y ∷ put_by before x ys) (x ∷ y ∷ ys))
      ≡ under k currency (x ∷ y ∷ ys)
  put_under_by true x y ys e = omega (arith, e)
  put_under_by false x y ys e = refl

  put_under : (x : Lot × ℕ) (ys : List (Lot × ℕ))
      → under k currency (put_by before x ys) ≡ under k currency (x ∷ ys)
  put_under x [] = refl
  put_under x (y ∷ ys) = put_under_by (before y x) x y ys (put_under x ys)

  arranged_under : (xs : List (Lot × ℕ))
      → under k currency (arranged_by before xs) ≡ under k currency xs
  arranged_under [] = refl
  arranged_under (x ∷ xs) =
      let rest = arranged_under xs in
      let own = put_under x (arranged_by before xs) in
      own ∙ ap (λ n. cond (same_key k (key_in currency x.0)) x.1 0 + n) rest

queue_under : (m : Method) (cs q : List (Lot × ℕ)) (k : Key) (currency : List ℕ) → IsQueue m cs q
    → under k currency q ≡ under k currency cs
queue_under m cs q k currency h =
    let before = by_key day_of (order_of m) in
    let total = open_orders m in
    let one = one_by_key day_of (order_of m) total cs q (arranged_by before cs) h
    (is_arranged before (ranks_by total day_of) cs) in
    ap (under k currency) one ∙ arranged_under before k currency cs

-- of fewer

cond_le : (b d : Bool) (m n : ℕ) → b ≡ d → m ≤ n → cond b m 0 ≤ cond d n 0
cond_le true true m n e le = le
cond_le true false m n e le = cc
cond_le false true m n e le = cc
cond_le false false m n e le = omega arith

takes_under : (k : Key) (currency : List ℕ) (q : List (Lot × ℕ)) (want : ℕ) (ts : List (Lot × ℕ))
    → TakesInTurn q want ts → under k currency ts ≤ under k currency q
takes_under k currency q want [] h = omega arith
takes_under k currency [] want (t ∷ ts) h = absurd h
takes_under k currency (c ∷ q) want (t ∷ ts) h =
    let rest = takes_under k currency q (want - t.1) ts h.5 in
    let own =
    cond_le (same_key k (key_in currency t.0)) (same_key k (key_in currency c.0)) t.1 c.1
    (ap (λ l. same_key k (key_in currency l)) h.0) h.2 in
    omega (arith, own, rest)

first_under : (k : Key) (currency : List ℕ) (n : ℕ) (ts : List (Lot × ℕ))
    → under k currency (take n ts) ≤ under k currency ts
first_under k currency zero ts = omega arith
first_under k currency (suc n) [] = omega arith
first_under k currency (suc n) (t ∷ ts) = let rest = first_under k currency n ts in
    omega (arith, rest)

-- ---- the candidates are no more than what is held

-- so much may be taken of what is left
abbrev pub Fits : ℤ → ℕ → ℤ → Type 0
Fits want n left = (n ≡ 0) ⊎ ((n ≤ unsigned_abs left) × (is_opposite want left ≡ true))

less_fits : (want : ℤ) (a b : ℕ) (left : ℤ) → a ≤ b → Fits want b left → Fits want a left
less_fits want a b left le (inl none) = inl (omega (arith, le, none))
less_fits want a b left le (inr h) = inr (omega (arith, le, h.0), h.1)

first_true : (a b c : Bool) → (a && b && c) ≡ true → a ≡ true
first_true true b c h = refl
first_true false b c h = h

last_true : (a b c : Bool) → (a && b && c) ≡ true → c ≡ true
last_true true true c h = h
last_true true false c h = cc
last_true false b c h = cc

module _ (k : Key) (s : Selector) (want : ℤ) where
  other : (currency : List ℕ) (lot : Option Lot) (n : ℤ) (rest : List (Lot × ℕ))
      → same_key k (record { currency = currency; lot = lot }) ≡ false
      → under k s.currency (candidate_of s want currency lot n ++ rest)
      ≡ under k s.currency rest
  other currency None n rest d = refl
  other currency (Some lot) n rest d =
      by (same_text currency s.currency && agrees s lot && is_opposite want n) refl
    where
      by : (b : Bool)
          → (same_text currency s.currency && agrees s lot && is_opposite want n) ≡ b
          → under k s.currency (cond b ((lot, unsigned_abs n) ∷ []) [] ++ rest)
          ≡ under k s.currency rest
      by true e =
          let same : currency ≡ s.currency =
          (bytes_eq-Decides currency s.currency).0
          (first_true (same_text currency s.currency) (agrees s lot) (is_opposite want n) e) in
          let none : same_key k (key_in s.currency lot) ≡ false =
          subst (λ c. same_key k (key_in c lot) ≡ false) same d in
          ap (λ b. cond b (unsigned_abs n) 0 + under k s.currency rest) none ∙ omega arith
      by false e = refl

  none_under : (es : List Position) → AllByRecursion (DiffersFrom k) es
      → under k s.currency (candidates s want es) ≡ 0
  none_under [] d = refl
  none_under (e ∷ es) d =
      other e.key.currency e.key.lot e.count (candidates s want es) d.0 ∙ none_under es d.1

  own : (currency : List ℕ) (lot : Option Lot) (n : ℤ) (rest : List (Lot × ℕ))
      → under k s.currency rest ≡ 0
      → Fits want (under k s.currency (candidate_of s want currency lot n ++ rest)) n
  own currency None n rest z = inl z
  own currency (Some lot) n rest z =
      by (same_text currency s.currency && agrees s lot && is_opposite want n) refl
    where
      here : is_opposite want n ≡ true → (b : Bool)
          → Fits want (cond b (unsigned_abs n) 0 + under k s.currency rest) n
      here e true = inr (omega (arith, z), e)
      here e false = inl (omega (arith, z))

      by : (b : Bool)
          → (same_text currency s.currency && agrees s lot && is_opposite want n) ≡ b
          → Fits want (under k s.currency (cond b ((lot, unsigned_abs n) ∷ []) [] ++ rest)) n
      by true e =
          here
          (last_true (same_text currency s.currency) (agrees s lot) (is_opposite want n) e)
          (same_key k (key_in s.currency lot))
      by false e = inl z

  candidates_fit : (es : List Position) → IsInventory es
      → Fits want (under k s.currency (candidates s want es)) (count_of es k)
  candidates_fit [] i = inl refl
  candidates_fit (e ∷ es) i = by (same_key k e.key) refl (candidates_fit es i.2)
    where
      by : (b : Bool) → same_key k e.key ≡ b
          → Fits want (under k s.currency (candidates s want es)) (count_of es k)
          → Fits want (under k s.currency (candidates s want (e ∷ es)))
          (cond b e.count (count_of es k))
      by true d rest =
          own e.key.currency e.key.lot e.count (candidates s want es)
          (none_under es
          (subst (λ q. AllByRecursion (DiffersFrom q) es) (sym ((same_key_Decides k e.key).0 d)) i.1))
      by false d rest =
          subst (λ n. Fits want n (count_of es k))
          (sym (other e.key.currency e.key.lot e.count (candidates s want es) d)) rest

-- of a reduction, however many of its takes are made
pub reduction_fits : (m : Method) (s : Selector) (want : ℤ) (es : List Position)
    (ts : List (Lot × ℕ)) (k : Key) (n : ℕ) → IsInventory es
    → IsReduction m (candidates s want es) (unsigned_abs want) ts
    → Fits want (under k s.currency (take n ts)) (count_of es k)
reduction_fits m s want es ts k n i r =
    let first = first_under k s.currency n ts in
    let all =
    takes_under k s.currency r.queue (unsigned_abs want) ts
    (to_takes r.queue (unsigned_abs want) ts r.taken) in
    let same = queue_under m (candidates s want es) r.queue k s.currency r.arranged in
    less_fits want (under k s.currency (take n ts)) (under k s.currency (candidates s want es))
    (count_of es k) (omega (arith, first, all, same)) (candidates_fit k s want es i)

-- ---- what is left

none_after : (es ts : List Position) (k : Key) → AllByRecursion (DiffersFrom k) es
    → count_of (after es ts) k ≡ pos 0
none_after [] ts k d = refl
none_after (e ∷ es) ts k d =
    by (int_eq (e.count +ℤ count_of ts e.key) (pos 0)) (none_after es ts k d.1)
  where
    n : ℤ
    n = e.count +ℤ count_of ts e.key

    by : (z : Bool) → count_of (after es ts) k ≡ pos 0
        → count_of (cond z [] (record { key = e.key; count = n } ∷ []) ++ after es ts) k ≡ pos 0
    by true rest = rest
    by false rest = ap (λ b. cond b n (count_of (after es ts) k)) d.0 ∙ rest

differs_after : (es ts : List Position) (k : Key) → AllByRecursion (DiffersFrom k) es
    → AllByRecursion (DiffersFrom k) (after es ts)
differs_after [] ts k d = tt
differs_after (e ∷ es) ts k d =
    by (int_eq (e.count +ℤ count_of ts e.key) (pos 0)) (differs_after es ts k d.1)
  where
    by : (z : Bool) → AllByRecursion (DiffersFrom k) (after es ts)
        → AllByRecursion (DiffersFrom k)
        (cond z [] (record { key = e.key; count = e.count +ℤ count_of ts e.key } ∷ [])
        ++ after es ts)
    by true rest = rest
    by false rest = (d.0, rest)

pub inventory_after : (es ts : List Position) → IsInventory es → IsInventory (after es ts)
inventory_after [] ts i = tt
inventory_after (e ∷ es) ts i =
    by (int_eq (e.count +ℤ count_of ts e.key) (pos 0)) refl (inventory_after es ts i.2)
  where
    by : (z : Bool) → int_eq (e.count +ℤ count_of ts e.key) (pos 0) ≡ z
        → IsInventory (after es ts)
        → IsInventory
        (cond z [] (record { key = e.key; count = e.count +ℤ count_of ts e.key } ∷ [])
        ++ after es ts)
    by true z rest = rest
    by false z rest = (z, differs_after es ts e.key i.1, rest)

-- under each key
pub count_after : (es ts : List Position) (k : Key) → IsInventory es
    → IsPart (count_of es k) (count_of ts k)
    → count_of (after es ts) k ≡ count_of es k +ℤ count_of ts k
count_after [] ts k i part = omega (arith, ints, part)
count_after (e ∷ es) ts k i part =
    by (same_key k e.key) refl (int_eq (e.count +ℤ count_of ts e.key) (pos 0)) refl part
    (count_after es ts k i.2)
  where
    n : ℤ
    n = e.count +ℤ count_of ts e.key

    by : (b : Bool) → same_key k e.key ≡ b → (z : Bool) → int_eq n (pos 0) ≡ z
        → IsPart (cond b e.count (count_of es k)) (count_of ts k)
        → (IsPart (count_of es k) (count_of ts k)
        → count_of (after es ts) k ≡ count_of es k +ℤ count_of ts k)
        → count_of (cond z [] (record { key = e.key; count = n } ∷ []) ++ after es ts) k
        ≡ cond b e.count (count_of es k) +ℤ count_of ts k
    by true d true z part rest =
        let key : k ≡ e.key = (same_key_Decides k e.key).0 d in
        none_after es ts k (subst (λ q. AllByRecursion (DiffersFrom q) es) (sym key) i.1)
        ∙ sym ((signed_Decides n (pos 0)).0 z)
        ∙ ap (λ q. e.count +ℤ count_of ts q) (sym key)
    by true d false z part rest =
        ap (λ b. cond b n (count_of (after es ts) k)) d
        ∙ ap (λ q. e.count +ℤ count_of ts q) (sym ((same_key_Decides k e.key).0 d))
    by false d true z part rest = rest part
    by false d false z part rest = ap (λ b. cond b n (count_of (after es ts) k)) d ∙ rest part
