-- How many lots of each sign are left, once a take more is known.
use Rattle.std.proofs.Common.{◌≡◌, ◌+◌, ◌≤◌, ℕ, ℤ, pos, ◌+ℤ◌, Bool, true, false, cond, List, []}
use Rattle.std.proofs.Common.{◌∷◌, ◌++◌, length, refl, sym, ap, ◌∙◌, true≢false, arith}
use Rattle.std.specs.List.{AllByRecursion}
use Rattle.std.specs.Ordering.{int_eq}
use Rattle.std.specs.Cmp.{signed_Decides}
use Rattle.std.proofs.lemmas.Int.{ints}
use Rattle.bean_lots.specs.Inventory.{DiffersFrom, IsInventory, added, count_of, held_as, in_each}
use Rattle.bean_lots.specs.Lot.{same_key}
use Rattle.bean_lots.specs.declared.lot.Key.{Key}
use Rattle.bean_lots.specs.declared.lot.Position.{Position}
use Rattle.bean_lots.proofs.InventoryFacts.{pointwise_added}
use Rattle.bean_lots.proofs.LotFacts.{same_key_Decides, same_key_equiv}
use Rattle.bean_reductions.specs.After.{after}

module _ (f : Key → ℤ → ℕ) (none : (k : Key) → f k (pos 0) ≡ 0) where
  front : (k : Key) (n : ℤ) (es : List Position)
      → in_each f (held_as k n ++ es) ≡ f k n + in_each f es
  front k n es = by (int_eq n (pos 0)) refl
    where
      by : (z : Bool) → int_eq n (pos 0) ≡ z
          → in_each f (cond z [] (record { key = k; count = n } ∷ []) ++ es)
          ≡ f k n + in_each f es
      by true z =
          let zero : f k n ≡ 0 = ap (f k) ((signed_Decides n (pos 0)).0 z) ∙ none k in
          omega (arith, zero)
      by false z = refl

  -- all are left where nothing is taken
  pub all_left : (es : List Position) → in_each f (after es []) ≡ in_each f es
  all_left [] = refl
  all_left (e ∷ es) =
      let rest = all_left es in
      let own : f e.key (e.count +ℤ pos 0) ≡ f e.key e.count =
      ap (f e.key) (omega (arith, ints)) in
      front e.key (e.count +ℤ pos 0) (after es []) ∙ omega (arith, own, rest)

  -- no more than what is held
  pub few : ((k : Key) (n : ℤ) → f k n ≤ 1) → (es ts : List Position)
      → in_each f (after es ts) ≤ length es
  few one [] ts = omega arith
  few one (e ∷ es) ts =
      let own = one e.key (e.count +ℤ count_of ts e.key) in
      let rest = few one es ts in
      let all = front e.key (e.count +ℤ count_of ts e.key) (after es ts) in
      omega (arith, own, rest, all)

  -- what isn't among them has no part
  same_without : (es ts us : List Position) (k : Key) → AllByRecursion (DiffersFrom k) es
      → ((q : Key) → same_key q k ≡ false → count_of us q ≡ count_of ts q)
      → in_each f (after es us) ≡ in_each f (after es ts)
  same_without [] ts us k d same = refl
  same_without (e ∷ es) ts us k d same =
      let own : f e.key (e.count +ℤ count_of us e.key) ≡ f e.key (e.count +ℤ count_of ts e.key) =
      ap (λ n. f e.key (e.count +ℤ n)) (same e.key (same_key_equiv.symm e.key k ∙ d.0)) in
      let rest = same_without es ts us k d.1 same in
      let new = front e.key (e.count +ℤ count_of us e.key) (after es us) in
      let old = front e.key (e.count +ℤ count_of ts e.key) (after es ts) in
      omega (arith, own, rest, new, old)

  -- of one key more or less is left
  changed : (es ts us : List Position) (k : Key) → IsInventory es
      → int_eq (count_of es k) (pos 0) ≡ false
      → ((q : Key) → same_key q k ≡ false → count_of us q ≡ count_of ts q)
      → in_each f (after es us) + f k (count_of es k +ℤ count_of ts k)
      ≡ in_each f (after es ts) + f k (count_of es k +ℤ count_of us k)
  changed [] ts us k i some same = cc
  changed (e ∷ es) ts us k i some same =
      by (same_key k e.key) refl some (changed es ts us k i.2)
    where
      new : in_each f (after (e ∷ es) us)
          ≡ f e.key (e.count +ℤ count_of us e.key) + in_each f (after es us)
      new = front e.key (e.count +ℤ count_of us e.key) (after es us)

      old : in_each f (after (e ∷ es) ts)
          ≡ f e.key (e.count +ℤ count_of ts e.key) + in_each f (after es ts)
      old = front e.key (e.count +ℤ count_of ts e.key) (after es ts)

      by : (b : Bool) → same_key k e.key ≡ b
          → int_eq (cond b e.count (count_of es k)) (pos 0) ≡ false
          → (int_eq (count_of es k) (pos 0) ≡ false
          → ((q : Key) → same_key q k ≡ false → count_of us q ≡ count_of ts q)
          → in_each f (after es us) + f k (count_of es k +ℤ count_of ts k)
          ≡ in_each f (after es ts) + f k (count_of es k +ℤ count_of us k))
          → in_each f (after (e ∷ es) us) + f k (cond b e.count (count_of es k) +ℤ count_of ts k)
          ≡ in_each f (after (e ∷ es) ts) + f k (cond b e.count (count_of es k) +ℤ count_of us k)
      by true s some rest =
          let key : k ≡ e.key = (same_key_Decides k e.key).0 s in
          let others =
          same_without es ts us e.key i.1
          (λ q d. same q (ap (same_key q) key ∙ d)) in
          let before : f k (e.count +ℤ count_of ts k) ≡ f e.key (e.count +ℤ count_of ts e.key) =
          ap (λ q. f q (e.count +ℤ count_of ts q)) key in
          let now : f k (e.count +ℤ count_of us k) ≡ f e.key (e.count +ℤ count_of us e.key) =
          ap (λ q. f q (e.count +ℤ count_of us q)) key in
          let first = new in
          let second = old in
          omega (arith, others, before, now, first, second)
      by false s some rest =
          let more = rest some same in
          let own : f e.key (e.count +ℤ count_of us e.key) ≡ f e.key (e.count +ℤ count_of ts e.key)
          =
          ap (λ n. f e.key (e.count +ℤ n)) (same e.key (same_key_equiv.symm e.key k ∙ s)) in
          let first = new in
          let second = old in
          omega (arith, more, own, first, second)

  -- a part of what is left
  pub part : (es ts : List Position) (k : Key) → int_eq (count_of es k) (pos 0) ≡ false
      → f k (count_of es k +ℤ count_of ts k) ≤ in_each f (after es ts)
  part [] ts k some = cc
  part (e ∷ es) ts k some = by (same_key k e.key) refl some (part es ts k)
    where
      all : in_each f (after (e ∷ es) ts)
          ≡ f e.key (e.count +ℤ count_of ts e.key) + in_each f (after es ts)
      all = front e.key (e.count +ℤ count_of ts e.key) (after es ts)

      by : (b : Bool) → same_key k e.key ≡ b
          → int_eq (cond b e.count (count_of es k)) (pos 0) ≡ false
          → (int_eq (count_of es k) (pos 0) ≡ false
          → f k (count_of es k +ℤ count_of ts k) ≤ in_each f (after es ts))
          → f k (cond b e.count (count_of es k) +ℤ count_of ts k) ≤ in_each f (after (e ∷ es) ts)
      by true s some rest =
          let own : f k (e.count +ℤ count_of ts k) ≡ f e.key (e.count +ℤ count_of ts e.key) =
          ap (λ q. f q (e.count +ℤ count_of ts q)) ((same_key_Decides k e.key).0 s) in
          let is = all in
          omega (arith, own, is)
      by false s some rest =
          let more = rest some in
          let is = all in
          omega (arith, more, is)

  elsewhere : (ts : List Position) (k q : Key) (n : ℤ) → IsInventory ts → same_key q k ≡ false
      → count_of (added ts k n) q ≡ count_of ts q
  elsewhere ts k q n i d =
      pointwise_added ts k q n i ∙ ap (λ b. count_of ts q +ℤ cond b n (pos 0)) d
      ∙ omega (arith, ints)

  -- a take changes what is left of its lot
  pub one_take : (es ts : List Position) (k : Key) (n : ℤ) → IsInventory es → IsInventory ts
      → int_eq (count_of es k) (pos 0) ≡ false
      → in_each f (after es (added ts k n)) + f k (count_of es k +ℤ count_of ts k)
      ≡ in_each f (after es ts) + f k ((count_of es k +ℤ count_of ts k) +ℤ n)
  one_take es ts k n i j some =
      changed es ts (added ts k n) k i some (λ q d. elsewhere ts k q n j d)
      ∙ ap (λ m. in_each f (after es ts) + f k m)
      (ap (λ m. count_of es k +ℤ m)
      (pointwise_added ts k k n j ∙ ap (λ b. count_of ts k +ℤ cond b n (pos 0))
      ((same_key_Decides k k).1 refl))
      ∙ sums (count_of es k) (count_of ts k) n)
    where
      sums : (a b c : ℤ) → a +ℤ (b +ℤ c) ≡ (a +ℤ b) +ℤ c
      sums a b c = omega (arith, ints)

  absent : (es : List Position) (k : Key) → IsInventory es → count_of es k ≡ pos 0
      → AllByRecursion (DiffersFrom k) es
  absent [] k i h = tt
  absent (e ∷ es) k i h = by (same_key k e.key) refl h (absent es k i.2)
    where
      by : (b : Bool) → same_key k e.key ≡ b → cond b e.count (count_of es k) ≡ pos 0
          → (count_of es k ≡ pos 0 → AllByRecursion (DiffersFrom k) es)
          → AllByRecursion (DiffersFrom k) (e ∷ es)
      by true s h rest =
          absurd (true≢false (sym ((signed_Decides e.count (pos 0)).1 h) ∙ i.0))
      by false s h rest = (s, rest h)

  -- and of nothing where the lot isn't held
  pub no_take : (es ts : List Position) (k : Key) (n : ℤ) → IsInventory es → IsInventory ts
      → count_of es k ≡ pos 0
      → in_each f (after es (added ts k n)) ≡ in_each f (after es ts)
  no_take es ts k n i j h =
      same_without es ts (added ts k n) k (absent es k i h) (λ q d. elsewhere ts k q n j d)

  -- nor where it has no part
  pub unlotted : (es ts : List Position) (k : Key) (n : ℤ) → IsInventory es → IsInventory ts
      → ((m : ℤ) → f k m ≡ 0)
      → in_each f (after es (added ts k n)) ≡ in_each f (after es ts)
  unlotted es ts k n i j zero = by (int_eq (count_of es k) (pos 0)) refl
    where
      by : (b : Bool) → int_eq (count_of es k) (pos 0) ≡ b
          → in_each f (after es (added ts k n)) ≡ in_each f (after es ts)
      by true z = no_take es ts k n i j ((signed_Decides (count_of es k) (pos 0)).0 z)
      by false z =
          let all = one_take es ts k n i j z in
          let before = zero (count_of es k +ℤ count_of ts k) in
          let now = zero ((count_of es k +ℤ count_of ts k) +ℤ n) in
          omega (arith, all, before, now)
