-- Which lots are left, once a take more is noted.
use Rattle.std.proofs.Common.{◌≡◌, ◌+◌, ◌≤◌, ◌<◌, ◌^◌, ℕ, ℤ, pos, ◌+ℤ◌, Bool, true, false, cond, ◌&&◌}
use Rattle.std.proofs.Common.{List, [], length, refl, sym, ap, ◌∙◌, subst, arith}
use Rattle.std.specs.Int.{w128}
use Rattle.std.specs.Int.RustNames.{unsigned_abs, FitsSigned}
use Rattle.std.specs.Option.{is_some}
use Rattle.std.specs.Ordering.{int_eq}
use Rattle.std.specs.Str.{bytes_eq}
use Rattle.std.proofs.lemmas.Int.{ints}
use Rattle.std.proofs.lemmas.Slice.Eq.{bytes_eq-Decides}
use Rattle.bean_lots.specs.Inventory.{IsInventory, added, as_long, as_short, count_of, long_lot}
use Rattle.bean_lots.specs.Inventory.{short_lot}
use Rattle.bean_inventories.specs.declared.inventory.signs.Signs.{Signs}
use Rattle.bean_lots.specs.declared.lot.Key.{Key}
use Rattle.bean_lots.specs.declared.lot.Position.{Position}
use Rattle.bean_inventories.proofs.TallyFacts.{not_long, not_short, one_long, one_short}
use Rattle.bean_reductions.specs.After.{AreSmall, after}
use Rattle.bean_reductions.proofs.AfterFacts.{count_small}
use Rattle.bean_reductions.proofs.LeftFacts as left
use Rattle.bean_holdings.specs.LotsLeft.{AreLeft, left_in, same_place, signs_in}
use Rattle.bean_holdings.specs.declared.lots_left.LotsLeft.{LotsLeft}

pub same_signs : (s t : Signs) → s.long ≡ t.long → s.short ≡ t.short → s ≡ t
same_signs s t long short = λ i. record { long = long i; short = short i }

-- all are left where nothing is taken
pub all_left : (c : List ℕ) (es : List Position) → signs_in c (after es []) ≡ signs_in c es
all_left c es =
    same_signs _ _ (left.all_left (long_lot c) (not_long c) es)
    (left.all_left (short_lot c) (not_short c) es)

-- what isn't held changes nothing
pub not_held : (c : List ℕ) (es ts : List Position) (k : Key) (n : ℤ) → IsInventory es
    → IsInventory ts → count_of es k ≡ pos 0
    → signs_in c (after es (added ts k n)) ≡ signs_in c (after es ts)
not_held c es ts k n i j h =
    same_signs _ _ (left.no_take (long_lot c) (not_long c) es ts k n i j h)
    (left.no_take (short_lot c) (not_short c) es ts k n i j h)

no_part : (b : Bool) (n : ℕ) → b ≡ false → cond b n 0 ≡ 0
no_part b n h = ap (λ a. cond a n 0) h

other : (a b : Bool) → a ≡ false → (a && b) ≡ false
other a b h = ap (λ c. c && b) h

none : (a b : Bool) → b ≡ false → (a && b) ≡ false
none true b h = h
none false b h = refl

-- nor does what is no lot of the currency
pub no_lot : (c : List ℕ) (es ts : List Position) (k : Key) (n : ℤ) → IsInventory es
    → IsInventory ts → (bytes_eq k.currency c && is_some k.lot) ≡ false
    → signs_in c (after es (added ts k n)) ≡ signs_in c (after es ts)
no_lot c es ts k n i j h =
    same_signs _ _
    (left.unlotted (long_lot c) (not_long c) es ts k n i j (λ m. no_part _ (as_long m) h))
    (left.unlotted (short_lot c) (not_short c) es ts k n i j (λ m. no_part _ (as_short m) h))

pub no_lot_at_all : (c : List ℕ) (es ts : List Position) (k : Key) (n : ℤ) → IsInventory es
    → IsInventory ts → is_some k.lot ≡ false
    → signs_in c (after es (added ts k n)) ≡ signs_in c (after es ts)
no_lot_at_all c es ts k n i j h = no_lot c es ts k n i j (none (bytes_eq k.currency c) _ h)

own_currency : (k : Key) → is_some k.lot ≡ true
    → (bytes_eq k.currency k.currency && is_some k.lot) ≡ true
own_currency k lot = λ i. (bytes_eq-Decides k.currency k.currency).1 refl i && lot i

own_part : (b : Bool) (n all : ℕ) → b ≡ true → cond b n 0 ≤ all → n ≤ all
own_part b n all h few = subst (λ c. cond c n 0 ≤ all) h few

-- a lot that is counted anew is one of those that are left
pub long_part : (es ts : List Position) (k : Key) (own : Signs) → is_some k.lot ≡ true
    → own ≡ signs_in k.currency (after es ts) → int_eq (count_of es k) (pos 0) ≡ false
    → as_long (count_of es k +ℤ count_of ts k) ≤ own.long
long_part es ts k own lot is some =
    subst (λ s. as_long (count_of es k +ℤ count_of ts k) ≤ s.long) (sym is)
    (own_part _ _ _ (own_currency k lot)
    (left.part (long_lot k.currency) (not_long k.currency) es ts k some))

pub short_part : (es ts : List Position) (k : Key) (own : Signs) → is_some k.lot ≡ true
    → own ≡ signs_in k.currency (after es ts) → int_eq (count_of es k) (pos 0) ≡ false
    → as_short (count_of es k +ℤ count_of ts k) ≤ own.short
short_part es ts k own lot is some =
    subst (λ s. as_short (count_of es k +ℤ count_of ts k) ≤ s.short) (sym is)
    (own_part _ _ _ (own_currency k lot)
    (left.part (short_lot k.currency) (not_short k.currency) es ts k some))

pub few_long : (c : List ℕ) (es ts : List Position) (own : Signs)
    → own ≡ signs_in c (after es ts) → length es < 2 ^ 63 → own.long < 2 ^ 63
few_long c es ts own is small =
    let same = ap (λ s. s.long) is in
    let few = left.few (long_lot c) (not_long c) (one_long c) es ts in
    omega (arith, same, few, small)

pub few_short : (c : List ℕ) (es ts : List Position) (own : Signs)
    → own ≡ signs_in c (after es ts) → length es < 2 ^ 63 → own.short < 2 ^ 63
few_short c es ts own is small =
    let same = ap (λ s. s.short) is in
    let few = left.few (short_lot c) (not_short c) (one_short c) es ts in
    omega (arith, same, few, small)

-- what is left of one currency, once a lot of it is counted anew
one_currency : (f : ℤ → ℕ) (b : Bool) (new own now was before after : ℕ) → b ≡ true
    → own ≡ was → new + before ≡ own + after
    → now + cond b before 0 ≡ was + cond b after 0 → new ≡ now
one_currency f b new own now was before after h is changed all =
    let here : now + before ≡ was + after =
    subst (λ c. now + cond c before 0 ≡ was + cond c after 0) h all in
    omega (arith, is, changed, here)

pub counted : (es ts : List Position) (k : Key) (n : ℤ) (own new : Signs) → IsInventory es
    → IsInventory ts → int_eq (count_of es k) (pos 0) ≡ false → is_some k.lot ≡ true
    → own ≡ signs_in k.currency (after es ts)
    → new.long + as_long (count_of es k +ℤ count_of ts k)
    ≡ own.long + as_long ((count_of es k +ℤ count_of ts k) +ℤ n)
    → new.short + as_short (count_of es k +ℤ count_of ts k)
    ≡ own.short + as_short ((count_of es k +ℤ count_of ts k) +ℤ n)
    → new ≡ signs_in k.currency (after es (added ts k n))
counted es ts k n own new i j some lot is longs shorts =
    same_signs _ _
    (one_currency as_long _ _ _ _ _ _ _ (own_currency k lot) (ap (λ s. s.long) is) longs
    (left.one_take (long_lot k.currency) (not_long k.currency) es ts k n i j some))
    (one_currency as_short _ _ _ _ _ _ _ (own_currency k lot) (ap (λ s. s.short) is) shorts
    (left.one_take (short_lot k.currency) (not_short k.currency) es ts k n i j some))

-- a take of a lot is noted
pub noted : (l m : LotsLeft) (a : List ℕ) (es ts : List Position) (k : Key) (n : ℤ) (new : Signs)
    → IsInventory es → IsInventory ts → AreLeft l a es ts
    → new ≡ signs_in k.currency (after es (added ts k n))
    → ((c : List ℕ) → left_in m a c es ≡ cond (same_place a k.currency a c) new (left_in l a c es))
    → AreLeft m a es (added ts k n)
noted l m a es ts k n new i j old is set = record {
  each = λ c. by c (bytes_eq k.currency c) refl;
}
  where
    here : (c : List ℕ) → same_place a k.currency a c ≡ bytes_eq k.currency c
    here c = ap (λ b. b && bytes_eq k.currency c) ((bytes_eq-Decides a a).1 refl)

    by : (c : List ℕ) (b : Bool) → bytes_eq k.currency c ≡ b
        → left_in m a c es ≡ signs_in c (after es (added ts k n))
    by c true s =
        set c ∙ ap (λ b. cond b new (left_in l a c es)) (here c ∙ s) ∙ is
        ∙ ap (λ x. signs_in x (after es (added ts k n))) ((bytes_eq-Decides k.currency c).0 s)
    by c false s =
        set c ∙ ap (λ b. cond b new (left_in l a c es)) (here c ∙ s) ∙ old.each c
        ∙ sym (no_lot c es ts k n i j (other _ (is_some k.lot) s))

pub as_before : (l : LotsLeft) (a : List ℕ) (es ts us : List Position) → AreLeft l a es ts
    → ((c : List ℕ) → signs_in c (after es us) ≡ signs_in c (after es ts)) → AreLeft l a es us
as_before l a es ts us old same = record { each = λ c. old.each c ∙ sym (same c) }

pub sum_fits : (es ts : List Position) (k : Key) → AreSmall (2 ^ 125) es → AreSmall (2 ^ 125) ts
    → FitsSigned w128 (count_of es k +ℤ count_of ts k)
sum_fits es ts k small few =
    let held = count_small (2 ^ 125) es k small in
    let taken = count_small (2 ^ 125) ts k few in
    fits (count_of es k) (count_of ts k) held taken
  where
    fits : (a b : ℤ) → unsigned_abs a ≤ 2 ^ 125 → unsigned_abs b ≤ 2 ^ 125
        → FitsSigned w128 (a +ℤ b)
    fits a b h k = grind (arith, ints)

pub sums_fit : (es ts : List Position) (k : Key) (n : ℤ) → AreSmall (2 ^ 125) es
    → AreSmall (2 ^ 125) ts → unsigned_abs n < 10 ^ 20
    → FitsSigned w128 ((count_of es k +ℤ count_of ts k) +ℤ n)
sums_fit es ts k n small few one =
    let held = count_small (2 ^ 125) es k small in
    let taken = count_small (2 ^ 125) ts k few in
    fits (count_of es k) (count_of ts k) n held taken one
  where
    fits : (a b c : ℤ) → unsigned_abs a ≤ 2 ^ 125 → unsigned_abs b ≤ 2 ^ 125
        → unsigned_abs c < 10 ^ 20 → FitsSigned w128 ((a +ℤ b) +ℤ c)
    fits a b c h k l = grind (arith, ints)

pub recoated : (f : ℤ → ℕ) (new own : ℕ) (m n b c : ℤ) → new + f m ≡ own + f n → m ≡ b → n ≡ c
    → new + f b ≡ own + f c
recoated f new own m n b c h e g = ap (λ x. new + f x) (sym e) ∙ h ∙ ap (λ x. own + f x) g
