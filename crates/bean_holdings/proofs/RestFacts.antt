-- What is still to be taken of what accounts held, once more is taken.
use Rattle.std.proofs.Common.{◌≡◌, ◌<◌, ◌^◌, ℕ, ℤ, pos, ◌+ℤ◌, Bool, true, false, cond, List, []}
use Rattle.std.proofs.Common.{◌∷◌, ◌++◌, append_assoc, length, refl, sym, ◌∙◌, ap, subst, arith}
use Rattle.std.proofs.Common.{true≢false}
use Rattle.std.specs.List.{AllByRecursion}
use Rattle.std.specs.Ordering.{int_eq}
use Rattle.std.specs.Cmp.{signed_Decides}
use Rattle.std.specs.Str.{bytes_eq}
use Rattle.std.proofs.lemmas.Int.{ints}
use Rattle.std.proofs.lemmas.List.{append-nil}
use Rattle.std.proofs.lemmas.Slice.Eq.{bytes_eq-Decides}
use Rattle.bean_lots.specs.Inventory.{DiffersFrom, IsInventory, added, count_of}
use Rattle.bean_lots.specs.Lot.{same_key}
use Rattle.bean_lots.specs.declared.lot.Key.{Key}
use Rattle.bean_lots.specs.declared.lot.Position.{Position}
use Rattle.bean_lots.proofs.InventoryFacts.{pointwise_added}
use Rattle.bean_lots.proofs.LotFacts.{same_key_Decides, same_key_equiv}
use Rattle.bean_inventories.proofs.PartFacts.{both, first, middle, second}
use Rattle.bean_reductions.specs.After.{AreSmall, IsSmall}
use Rattle.bean_reductions.specs.Rest.{HasAllLeft, IsGone}
use Rattle.bean_holdings.specs.Holdings.{holding}
use Rattle.bean_holdings.specs.Inventories.{inventory_in}
use Rattle.bean_holdings.specs.LotsLeft.{AreLeft, left_in}
use Rattle.bean_holdings.specs.Rests.{rest_in}
use Rattle.bean_holdings.specs.declared.holdings.Holdings.{Holdings}
use Rattle.bean_holdings.specs.declared.inventories.Inventories.{Inventories}
use Rattle.bean_holdings.specs.declared.lots_left.LotsLeft.{LotsLeft}
use Rattle.bean_holdings.specs.declared.rests.Rests.{Rests}

-- ---- rests of rests

pub all_left : (taken es : List Position) → HasAllLeft taken es es
all_left taken es = record {
  before = [];
  behind = [];
  all = sym (append-nil es);
  none_before = tt;
  none_behind = tt;
}

pub narrower : (taken part rest held : List Position) → HasAllLeft taken part rest
    → HasAllLeft taken rest held → HasAllLeft taken part held
narrower taken part rest held p h = record {
  before = h.before ++ p.before;
  behind = p.behind ++ h.behind;
  all =
      h.all ∙ ap (λ l. h.before ++ (l ++ h.behind)) p.all
      ∙ ap (λ l. h.before ++ l)
      (append_assoc p.before (part ++ p.behind) h.behind
      ∙ ap (λ l. p.before ++ l) (append_assoc part p.behind h.behind))
      ∙ sym (append_assoc h.before p.before (part ++ (p.behind ++ h.behind)));
  none_before = both (IsGone taken) h.before p.before h.none_before p.none_before;
  none_behind = both (IsGone taken) p.behind h.behind p.none_behind h.none_behind;
}

pub small_part : (taken part rest : List Position) → HasAllLeft taken part rest
    → AreSmall (2 ^ 125) rest → AreSmall (2 ^ 125) part
small_part taken part rest h s = middle (IsSmall (2 ^ 125)) h.before part h.behind rest h.all s

-- the first position is passed
pub behind_first : (taken rest behind : List Position) (e : Position) → rest ≡ e ∷ behind
    → IsGone taken e → HasAllLeft taken behind rest
behind_first taken rest behind e is gone = record {
  before = e ∷ [];
  behind = [];
  all = is ∙ ap (λ l. e ∷ l) (sym (append-nil behind));
  none_before = (gone, tt);
  none_behind = tt;
}

-- the last position is passed
pub before_last : (taken rest before : List Position) (e : Position) → rest ≡ before ++ e ∷ []
    → IsGone taken e → HasAllLeft taken before rest
before_last taken rest before e is gone = record {
  before = [];
  behind = e ∷ [];
  all = is;
  none_before = tt;
  none_behind = (gone, tt);
}

pub shorter : (es rest : List Position) (e : Position) → es ≡ e ∷ rest → length rest < length es
shorter es rest e is = let same = ap length is in omega (arith, same)

one_longer : (es : List Position) (e : Position) → length es < length (es ++ e ∷ [])
one_longer [] e = omega arith
one_longer (x ∷ es) e = let rest = one_longer es e in omega (arith, rest)

pub shorter_before : (es rest : List Position) (e : Position) → es ≡ rest ++ e ∷ []
    → length rest < length es
shorter_before es rest e is = subst (λ l. length rest < length l) (sym is) (one_longer rest e)

-- ---- a take more

together : {A : Type 0} (P Q R : A → Type 0) (xs : List A) → ((x : A) → P x → Q x → R x)
    → AllByRecursion P xs → AllByRecursion Q xs → AllByRecursion R xs
together P Q R [] f a b = tt
together P Q R (x ∷ xs) f a b = (f x a.0 b.0, together P Q R xs f a.1 b.1)

-- what is held has the count under its key
abbrev pub HasCount : List Position → Position → Type 0
HasCount held e = count_of held e.key ≡ e.count

pub own_counts : (es : List Position) → IsInventory es → AllByRecursion (HasCount es) es
own_counts [] i = tt
own_counts (e ∷ es) i = (
  ap (λ b. cond b e.count (count_of es e.key)) ((same_key_Decides e.key e.key).1 refl),
  together (DiffersFrom e.key) (HasCount es) (HasCount (e ∷ es)) es
      (λ f d own.
      ap (λ b. cond b e.count (count_of es f.key)) (same_key_equiv.symm f.key e.key ∙ d) ∙ own)
      i.1 (own_counts es i.2),
)

elsewhere : (ts : List Position) (k q : Key) (n : ℤ) → IsInventory ts → same_key q k ≡ false
    → count_of (added ts k n) q ≡ count_of ts q
elsewhere ts k q n i d =
    pointwise_added ts k q n i ∙ ap (λ b. count_of ts q +ℤ cond b n (pos 0)) d
    ∙ omega (arith, ints)

-- what is gone stays so where the take is of another lot
still_gone : (taken held : List Position) (k : Key) (n : ℤ) (e : Position) → IsInventory taken
    → int_eq (count_of held k +ℤ count_of taken k) (pos 0) ≡ false → IsGone taken e
    → HasCount held e → IsGone (added taken k n) e
still_gone taken held k n e i some gone own = by (same_key e.key k) refl
  where
    by : (b : Bool) → same_key e.key k ≡ b → IsGone (added taken k n) e
    by true s =
        let key : e.key ≡ k = (same_key_Decides e.key k).0 s in
        let none : count_of held k +ℤ count_of taken k ≡ pos 0 =
        subst (λ q. count_of held q +ℤ count_of taken q ≡ pos 0) key
        (ap (λ m. m +ℤ count_of taken e.key) own ∙ gone) in
        absurd
        (true≢false
        (sym ((signed_Decides (count_of held k +ℤ count_of taken k) (pos 0)).1 none) ∙ some))
    by false s = ap (λ m. e.count +ℤ m) (elsewhere taken k e.key n i s) ∙ gone

-- a take of what is left leaves the rest one
pub once_more : (taken rest held : List Position) (k : Key) (n : ℤ) → IsInventory taken
    → IsInventory held → int_eq (count_of held k +ℤ count_of taken k) (pos 0) ≡ false
    → HasAllLeft taken rest held → HasAllLeft (added taken k n) rest held
once_more taken rest held k n i j some h =
    let own = own_counts held j in
    let split = subst (AllByRecursion (HasCount held)) h.all own in
    record {
      before = h.before;
      behind = h.behind;
      all = h.all;
      none_before =
          together (IsGone taken) (HasCount held) (IsGone (added taken k n)) h.before
          (λ e. still_gone taken held k n e i some) h.none_before
          (first (HasCount held) h.before (rest ++ h.behind) split);
      none_behind =
          together (IsGone taken) (HasCount held) (IsGone (added taken k n)) h.behind
          (λ e. still_gone taken held k n e i some) h.none_behind
          (second (HasCount held) rest h.behind
          (second (HasCount held) h.before (rest ++ h.behind) split));
    }

-- ---- the first take

abbrev HasSome : Position → Type 0
HasSome e = int_eq e.count (pos 0) ≡ false

each_has_some : (es : List Position) → IsInventory es → AllByRecursion HasSome es
each_has_some [] i = tt
each_has_some (e ∷ es) i = (i.0, each_has_some es i.2)

-- where nothing is taken nothing is gone
never_gone : (ts : List Position) (e : Position) → IsGone [] e → HasSome e → IsGone ts e
never_gone ts e gone some =
    let sum : e.count +ℤ pos 0 ≡ pos 0 = gone in
    let none : e.count ≡ pos 0 = omega (arith, ints, sum) in
    absurd (true≢false (sym ((signed_Decides e.count (pos 0)).1 none) ∙ some))

pub first_take : (taken rest held : List Position) (k : Key) (n : ℤ) → taken ≡ []
    → IsInventory held → HasAllLeft taken rest held → HasAllLeft (added taken k n) rest held
first_take taken rest held k n bare j h =
    let ts = added taken k n in
    let all : HasAllLeft [] rest held = subst (λ l. HasAllLeft l rest held) bare h in
    let split = subst (AllByRecursion HasSome) all.all (each_has_some held j) in
    record {
      before = all.before;
      behind = all.behind;
      all = all.all;
      none_before =
          together (IsGone []) HasSome (IsGone ts) all.before (never_gone ts) all.none_before
          (first HasSome all.before (rest ++ all.behind) split);
      none_behind =
          together (IsGone []) HasSome (IsGone ts) all.behind (never_gone ts) all.none_behind
          (second HasSome rest all.behind
          (second HasSome all.before (rest ++ all.behind) split));
    }

-- ---- all accounts

-- which lots are left, once some are taken from an account
pub lots_more :
    (l m : LotsLeft) (h : Holdings) (g f : Inventories) (account : List ℕ) (k : Key) (n : ℤ)
    (held taken : List Position)
    → held ≡ holding h account → taken ≡ inventory_in g account
    → ((a : List ℕ)
    → inventory_in f a
    ≡ cond (bytes_eq account a) (added (inventory_in g a) k n) (inventory_in g a))
    → AreLeft m account held (added taken k n)
    → ((a c : List ℕ) (es : List Position) → bytes_eq account a ≡ false
    → left_in m a c es ≡ left_in l a c es)
    → ((a : List ℕ) → AreLeft l a (holding h a) (inventory_in g a)) → (a : List ℕ)
    → AreLeft m a (holding h a) (inventory_in f a)
lots_more l m h g f account k n held taken e t more own others old a = by (bytes_eq account a) refl
  where
    by : (b : Bool) → bytes_eq account a ≡ b → AreLeft m a (holding h a) (inventory_in f a)
    by true s =
        let here : account ≡ a = (bytes_eq-Decides account a).0 s in
        let now : added taken k n ≡ inventory_in f a =
        ap (λ ts. added ts k n) (t ∙ ap (inventory_in g) here)
        ∙ sym (more a ∙ ap (λ b. cond b (added (inventory_in g a) k n) (inventory_in g a)) s) in
        subst (AreLeft m a (holding h a)) now
        (subst (λ es. AreLeft m a es (added taken k n)) (e ∙ ap (holding h) here)
        (subst (λ x. AreLeft m x held (added taken k n)) here own))
    by false s =
        let same : inventory_in g a ≡ inventory_in f a =
        sym (more a ∙ ap (λ b. cond b (added (inventory_in g a) k n) (inventory_in g a)) s) in
        subst (AreLeft m a (holding h a)) same
        record { each = λ c. others a c (holding h a) s ∙ (old a).each c }

-- the rest stays where the take is the first
pub rests_first :
    (r : Rests) (h : Holdings) (g f : Inventories) (account : List ℕ) (k : Key) (n : ℤ) (held taken : List Position)
    → held ≡ holding h account → taken ≡ inventory_in g account
    → ((a : List ℕ)
    → inventory_in f a
    ≡ cond (bytes_eq account a) (added (inventory_in g a) k n) (inventory_in g a))
    → HasAllLeft (added taken k n) (rest_in r account held) held
    → ((a : List ℕ) → HasAllLeft (inventory_in g a) (rest_in r a (holding h a)) (holding h a))
    → (a : List ℕ) → HasAllLeft (inventory_in f a) (rest_in r a (holding h a)) (holding h a)
rests_first r h g f account k n held taken e t more own old a = by (bytes_eq account a) refl
  where
    by : (b : Bool) → bytes_eq account a ≡ b
        → HasAllLeft (inventory_in f a) (rest_in r a (holding h a)) (holding h a)
    by true s =
        let here : account ≡ a = (bytes_eq-Decides account a).0 s in
        let sum : added taken k n ≡ inventory_in f a =
        ap (λ ts. added ts k n) (t ∙ ap (inventory_in g) here)
        ∙ sym (more a ∙ ap (λ b. cond b (added (inventory_in g a) k n) (inventory_in g a)) s) in
        subst (λ ts. HasAllLeft ts (rest_in r a (holding h a)) (holding h a)) sum
        (subst (λ es. HasAllLeft (added taken k n) (rest_in r a es) es) (e ∙ ap (holding h) here)
        (subst (λ x. HasAllLeft (added taken k n) (rest_in r x held) held) here own))
    by false s =
        let same : inventory_in g a ≡ inventory_in f a =
        sym (more a ∙ ap (λ b. cond b (added (inventory_in g a) k n) (inventory_in g a)) s) in
        subst (λ ts. HasAllLeft ts (rest_in r a (holding h a)) (holding h a)) same (old a)

-- and where they stand
pub rests_more :
    (r m : Rests) (h : Holdings) (g f : Inventories) (account : List ℕ) (k : Key) (n : ℤ)
    (held taken now rest part : List Position)
    → held ≡ holding h account → taken ≡ inventory_in g account → now ≡ inventory_in f account
    → ((a : List ℕ)
    → inventory_in f a
    ≡ cond (bytes_eq account a) (added (inventory_in g a) k n) (inventory_in g a))
    → ((a : List ℕ) (es : List Position)
    → rest_in m a es ≡ cond (bytes_eq account a) part (rest_in r a es))
    → HasAllLeft (added taken k n) rest held → HasAllLeft now part rest
    → ((a : List ℕ) → HasAllLeft (inventory_in g a) (rest_in r a (holding h a)) (holding h a))
    → (a : List ℕ) → HasAllLeft (inventory_in f a) (rest_in m a (holding h a)) (holding h a)
rests_more r m h g f account k n held taken now rest part e t u more put own new old a =
    by (bytes_eq account a) refl
  where
    by : (b : Bool) → bytes_eq account a ≡ b
        → HasAllLeft (inventory_in f a) (rest_in m a (holding h a)) (holding h a)
    by true s =
        let here : account ≡ a = (bytes_eq-Decides account a).0 s in
        let sum : added taken k n ≡ now =
        ap (λ ts. added ts k n) (t ∙ ap (inventory_in g) here)
        ∙ sym (more a ∙ ap (λ b. cond b (added (inventory_in g a) k n) (inventory_in g a)) s)
        ∙ sym (u ∙ ap (inventory_in f) here) in
        let all : HasAllLeft now part held =
        narrower now part rest held new (subst (λ ts. HasAllLeft ts rest held) sum own) in
        let kept : part ≡ rest_in m a (holding h a) =
        sym (put a (holding h a)
        ∙ ap (λ b. cond b part (rest_in r a (holding h a))) s) in
        subst (λ ts. HasAllLeft ts (rest_in m a (holding h a)) (holding h a))
        (u ∙ ap (inventory_in f) here)
        (subst (λ es. HasAllLeft now es (holding h a)) kept
        (subst (HasAllLeft now part) (e ∙ ap (holding h) here) all))
    by false s =
        let same : inventory_in g a ≡ inventory_in f a =
        sym (more a ∙ ap (λ b. cond b (added (inventory_in g a) k n) (inventory_in g a)) s) in
        let kept : rest_in r a (holding h a) ≡ rest_in m a (holding h a) =
        sym (put a (holding h a)
        ∙ ap (λ b. cond b part (rest_in r a (holding h a))) s) in
        subst (λ ts. HasAllLeft ts (rest_in m a (holding h a)) (holding h a)) same
        (subst (λ es. HasAllLeft (inventory_in g a) es (holding h a)) kept (old a))
