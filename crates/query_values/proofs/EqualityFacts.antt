-- Being the same is an equivalence.
use Rattle.std.proofs.Common.{◌≡◌, ◌⊎◌, inl, inr, ℕ, ℤ, pos, ◌-◌, ◌^◌, ◌*ℤ◌, max, Bool, true, false}
use Rattle.std.proofs.Common.{cond, ◌&&◌, List, [], ◌∷◌, None, nat_eq, refl, sym, ap, ap₂, ◌∙◌}
use Rattle.std.proofs.Common.{arith}
use Rattle.std.proofs.lemmas.Cmp.{nat_eq_equiv, int_eq_equiv, on_equiv, and_equiv, lists_equiv}
use Rattle.std.proofs.lemmas.Cmp.{nat_list_eq_equiv, eq_by_cmp_equiv}
use Rattle.std.proofs.lemmas.Int.{ints}
use Rattle.std.specs.Cmp.{IsEquivalence}
use Rattle.std.specs.Cmp.Lexicographic.{pointwise}
use Rattle.std.specs.List.{list_all}
use Rattle.std.specs.Ordering.{int_cmp, int_eq, is_eq, on, eq_of_both, eq_by_cmp}
use Rattle.bean_base.specs.Day.{number}
use Rattle.bean_base.specs.Decimal.{scaled}
use Rattle.bean_lots.proofs.LotFacts.{same_key_Decides, same_key_equiv}
use Rattle.bean_lots.specs.Inventory.{count_of}
use Rattle.bean_lots.specs.Lot.{same_key, same_text}
use Rattle.bean_lots.specs.declared.lot.Key.{Key}
use Rattle.bean_lots.specs.declared.lot.Position as entry
use Rattle.query_values.proofs.NumberOrder as numbers
use Rattle.query_values.specs.Equality.{same, same_number, same_truth, agree_at, same_bag}
use Rattle.query_values.specs.Order.{kind_rank}
use Rattle.query_bags.specs.declared.bag.Bag.{Bag}
use Rattle.query_values.specs.declared.value.Value.{Value}
use Rattle.query_values.specs.declared.value.Value.TheVariants.{Null, Truth, Number, Text, Day, Set}
use Rattle.query_values.specs.declared.value.Value.TheVariants.{Amount, Position, Inventory}

-- numbers
abbrev same_numbers : ℕ × ℤ → ℕ × ℤ → Bool
same_numbers a b = same_number a.0 a.1 b.0 b.1

in_order : (x y : ℤ) → is_eq (int_cmp x y) ≡ int_eq x y
in_order x y = grind (arith, ints)

by_order : (a b : ℕ × ℤ) → eq_by_cmp numbers.order a b ≡ same_numbers a b
by_order a b = in_order (scaled a.1 a.0 (max a.0 b.0)) (scaled b.1 b.0 (max a.0 b.0))

carried : {K : Type 0} {E F : K → K → Bool} → ((x y : K) → E x y ≡ F x y) → IsEquivalence E
    → IsEquivalence F
carried e h = record {
  refl = λ x. sym (e x x) ∙ h.refl x;
  symm = λ x y. sym (e x y) ∙ h.symm x y ∙ e y x;
  congr = λ x y z k. sym (e x z) ∙ h.congr x y z (e x y ∙ k) ∙ e y z;
}

numbers_equiv : IsEquivalence same_numbers
numbers_equiv = carried by_order (eq_by_cmp_equiv numbers.numbers_total)

-- truth values
abbrev bit : Bool → ℕ
bit true = 1
bit false = 0

by_bit : (a b : Bool) → nat_eq (bit a) (bit b) ≡ same_truth a b
by_bit true true = refl
by_bit true false = refl
by_bit false true = refl
by_bit false false = refl

truths_equiv : IsEquivalence same_truth
truths_equiv = carried by_bit (on_equiv bit nat_eq_equiv)

-- inventories
abbrev agree : Bag → Bag → Key → Bool
agree a b k = same_number a.places (count_of a.held k) b.places (count_of b.held k)

abbrev Agree : Bag → Bag → Type 0
Agree a b = (k : Key) → agree a b k ≡ true

none : (t : ℕ) → pos 0 *ℤ pos t ≡ pos 0
none t = omega (arith, ints)

nothing : (p q : ℕ) → same_number p (pos 0) q (pos 0) ≡ true
nothing p q = ap₂ int_eq (none (10 ^ (max p q - p))) (none (10 ^ (max p q - q)))

-- a key that an inventory has, or a count of 0
either : (p : Key → Bool) (es : List entry.Position) (k : Key) → list_all (λ e. p e.key) es ≡ true
    → (count_of es k ≡ pos 0) ⊎ (p k ≡ true)
either p [] k h = inl refl
either p (e ∷ es) k h = by (same_key k e.key) refl (p e.key) refl h (either p es k)
  where
    by : (b : Bool) → same_key k e.key ≡ b → (c : Bool) → p e.key ≡ c
        → (c && list_all (λ e. p e.key) es) ≡ true
        → (list_all (λ e. p e.key) es ≡ true → (count_of es k ≡ pos 0) ⊎ (p k ≡ true))
        → (cond b e.count (count_of es k) ≡ pos 0) ⊎ (p k ≡ true)
    by true alike true is h rest = inr (ap p ((same_key_Decides k e.key).0 alike) ∙ is)
    by true alike false is h rest = cc
    by false alike false is h rest = cc
    by false alike true is h rest = rest h

both : (a b : Bool) → (a && b) ≡ true → (a ≡ true) × (b ≡ true)
both true b h = (refl, h)
both false b h = cc

all_agree : (p : Key → Bool) (es : List entry.Position) → ((k : Key) → p k ≡ true)
    → list_all (λ e. p e.key) es ≡ true
all_agree p [] h = refl
all_agree p (e ∷ es) h = ap₂ ◌&&◌ (h e.key) (all_agree p es h)

agreed : (a b : Bag) → same_bag a b ≡ true → Agree a b
agreed a b h k =
    let parts = both (list_all (agree_at a b) a.held) (list_all (agree_at a b) b.held) h in
    by (either (agree a b) a.held k parts.0) (either (agree a b) b.held k parts.1)
  where
    by : (count_of a.held k ≡ pos 0) ⊎ (agree a b k ≡ true)
        → (count_of b.held k ≡ pos 0) ⊎ (agree a b k ≡ true) → agree a b k ≡ true
    by (inr t) y = t
    by (inl m) (inr t) = t
    by (inl m) (inl n) =
        ap₂ (λ m n. same_number a.places m b.places n) m n ∙ nothing a.places b.places

same_where : (a b : Bag) → Agree a b → same_bag a b ≡ true
same_where a b h = ap₂ ◌&&◌ (all_agree (agree a b) a.held h) (all_agree (agree a b) b.held h)

alike : (x y : Bool) → (x ≡ true → y ≡ true) → (y ≡ true → x ≡ true) → x ≡ y
alike true true f g = refl
alike true false f g = sym (f refl)
alike false true f g = g refl
alike false false f g = refl

turned : (a b : Bag) → Agree a b → Agree b a
turned a b h k =
    numbers_equiv.symm (b.places, count_of b.held k) (a.places, count_of a.held k) ∙ h k

-- the first two agree, so the third agrees with both or with none
through : (a b c : Bag) → Agree a b → Agree a c → Agree b c
through a b c h g k =
    sym (numbers_equiv.congr (a.places, count_of a.held k) (b.places, count_of b.held k)
    (c.places, count_of c.held k) (h k)) ∙ g k

bags_equiv : IsEquivalence same_bag
bags_equiv = record {
  refl = λ a. same_where a a (λ k. numbers_equiv.refl (a.places, count_of a.held k));
  symm = λ a b. alike (same_bag a b) (same_bag b a)
      (λ h. same_where b a (turned a b (agreed a b h)))
      (λ h. same_where a b (turned b a (agreed b a h)));
  congr = λ a b c h. alike (same_bag a c) (same_bag b c)
      (λ g. same_where b c (through a b c (agreed a b h) (agreed a c g)))
      (λ g. same_where a c (through b a c (turned a b (agreed a b h)) (agreed b c g)));
}

-- a value's parts, with nothing in place of what it lacks
abbrev number_in : Value → ℕ × ℤ
number_in (Number p n) = (p, n)
number_in (Amount p c n) = (p, n)
number_in x = (0, pos 0)

abbrev text_in : Value → List ℕ
text_in (Text t) = t
text_in (Amount p c n) = c
text_in x = []

abbrev day_in : Value → ℤ
day_in (Day d) = number d
day_in x = pos 0

abbrev truth_in : Value → Bool
truth_in (Truth b) = b
truth_in x = false

abbrev set_in : Value → List (List ℕ)
set_in (Set ts) = ts
set_in x = []

abbrev key_in : Value → Key
key_in (Position k n) = k
key_in x = record { currency = []; lot = None }

abbrev count_in : Value → ℤ
count_in (Position k n) = n
count_in x = pos 0

abbrev bag_in : Value → Bag
bag_in (Inventory b) = b
bag_in x = record { places = 0; held = [] }

abbrev by_parts : Value → Value → Bool
by_parts =
    eq_of_both (on kind_rank nat_eq)
    (eq_of_both (on number_in same_numbers) (eq_of_both (on text_in same_text)
    (eq_of_both (on day_in int_eq)
    (eq_of_both (on truth_in same_truth) (eq_of_both (on set_in (pointwise same_text))
    (eq_of_both (on key_in same_key) (eq_of_both (on count_in int_eq) (on bag_in same_bag))))))))

parts_equiv : IsEquivalence by_parts
parts_equiv =
    and_equiv (on_equiv kind_rank nat_eq_equiv)
    (and_equiv (on_equiv number_in numbers_equiv)
    (and_equiv (on_equiv text_in nat_list_eq_equiv)
    (and_equiv (on_equiv day_in int_eq_equiv)
    (and_equiv (on_equiv truth_in truths_equiv)
    (and_equiv (on_equiv set_in (lists_equiv nat_list_eq_equiv))
    (and_equiv (on_equiv key_in same_key_equiv)
    (and_equiv (on_equiv count_in int_eq_equiv) (on_equiv bag_in bags_equiv))))))))

and_true : (b : Bool) → (b && true) ≡ b
and_true true = refl
and_true false = refl

as_parts : (x y : Value) → by_parts x y ≡ same x y
as_parts (Truth a) (Truth b) = and_true (same_truth a b)
as_parts (Number p m) (Number q n) = and_true (same_number p m q n)
as_parts (Text a) (Text b) = and_true (same_text a b)
as_parts (Day a) (Day b) = and_true (int_eq (number a) (number b))
as_parts (Set a) (Set b) = and_true (pointwise same_text a b)
as_parts (Amount p c m) (Amount q d n) =
    ap (λ b. same_number p m q n && b) (and_true (same_text c d))
as_parts (Position j m) (Position k n) = ap (λ b. same_key j k && b) (and_true (int_eq m n))
as_parts (Inventory a) (Inventory b) = refl
as_parts Null Null = refl
as_parts x y = refl

pub values_equiv : IsEquivalence same
values_equiv = carried as_parts parts_equiv
