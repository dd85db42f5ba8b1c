-- What is known of all slots stays known.
use Rattle.std.proofs.Common.{◌≡◌, ◌+◌, ◌-◌, ◌<◌, ◌≤◌, ◌^◌, ℕ, ℤ, pos, false, filter, take, List}
use Rattle.std.proofs.Common.{[], ◌∷◌, ◌++◌, length, position, Some, None, sym, ◌∙◌, ap, subst, arith}
use Rattle.std.specs.Map.{keys_of, lookup, remove_entry}
use Rattle.std.specs.Ordering.{int_eq}
use Rattle.indexmap.specs.IndexMap.{insert_entry, set_value_at}
use Rattle.bean_lots.specs.Lot.{same_key}
use Rattle.bean_lots.specs.Inventory.{long_lot, short_lot}
use Rattle.bean_inventories.specs.Known.{signs_of}
use Rattle.bean_inventories.specs.Table.{AreTold, IsTold}
use Rattle.bean_inventories.specs.Recount.{AreFew, IsCounted, IsRecounted}
use Rattle.bean_lots.specs.Slots.{AreHoles, in_all, is_full}
use Rattle.bean_inventories.specs.Kept.{AreDays, IsKept}
use Rattle.bean_inventories.specs.declared.inventory.slots.Slots.{Slots}
use Rattle.bean_lots.specs.declared.lot.Key.{Key}
use Rattle.bean_lots.proofs.SlotFacts as slot
use Rattle.bean_inventories.proofs.TallyFacts as tally
use Rattle.bean_inventories.proofs.DayFacts as day
use Rattle.bean_inventories.proofs.TableFacts as table
use Rattle.bean_inventories.proofs.EndFacts as end
use Rattle.bean_lots.proofs.SweepFacts as swept
use Rattle.bean_inventories.proofs.OrderLeftFacts.{days_left}

sum_after : (total all part new old : ℕ) → total + old ≡ all + new → all ≡ part
    → (sum : ℕ) → sum + old ≡ part + new → total ≡ sum
sum_after total all part new old e f sum g = omega (arith, e, f, g)

-- where nothing is counted anew
pub counted_as_before : (s t : Slots) → IsKept s → t.counts ≡ s.counts
    → t.first ≡ s.first → t.days ≡ s.days
    → ((c : List ℕ) → signs_of t.lots c ≡ signs_of s.lots c)
    → AreTold (t.lots.told) s.counts → IsKept t
counted_as_before s t h entries first days signs costs = record {
  holes =
      subst (λ i. AreHoles i t.counts) (sym first)
      (subst (AreHoles s.first) (sym entries) h.holes);
  long = λ c.
      ap (λ x. x.long) (signs c) ∙ h.long c ∙ ap (in_all (long_lot c)) (sym entries);
  short = λ c.
      ap (λ x. x.short) (signs c) ∙ h.short c ∙ ap (in_all (short_lot c)) (sym entries);
  days =
      subst (λ d. AreDays d t.counts) (sym days)
      (subst (AreDays s.days) (sym entries) h.days);
  told = subst (AreTold (t.lots.told)) (sym entries) costs;
}

-- a write, which keeps the holes in front
over : (s t : Slots) (k : Key) (m n : ℤ) → IsKept s → lookup (same_key k) s.counts ≡ Some m
    → t.counts ≡ insert_entry same_key s.counts k n → AreHoles t.first t.counts
    → t.days ≡ s.days → t.lots.told ≡ s.lots.told
    → IsRecounted (signs_of s.lots) k m n (signs_of t.lots) → IsKept t
over s t k m n h there entries holes days costs signs = record {
  holes = holes;
  long = λ c.
      sum_after _ _ _ (long_lot c k n) (long_lot c k m) (signs.long c) (h.long c) _
      (tally.written (long_lot c) s.counts k m n there)
      ∙ ap (in_all (long_lot c)) (sym entries);
  short = λ c.
      sum_after _ _ _ (short_lot c k n) (short_lot c k m) (signs.short c) (h.short c) _
      (tally.written (short_lot c) s.counts k m n there)
      ∙ ap (in_all (short_lot c)) (sym entries);
  days =
      subst (λ d. AreDays d t.counts) (sym days)
      (subst (AreDays s.days) (sym entries)
      (λ e. day.written s.days.latest s.counts k m n there (h.days e)));
  told =
      subst (λ x. AreTold x t.counts) (sym costs)
      (subst (AreTold (s.lots.told)) (sym entries)
      (day.all_written (λ q. IsTold (s.lots.told) q.lot) s.counts k m n there h.told));
}

pub written : (s t : Slots) (k : Key) (m n : ℤ) → IsKept s
    → lookup (same_key k) s.counts ≡ Some m → int_eq m (pos 0) ≡ false
    → t.counts ≡ insert_entry same_key s.counts k n
    → t.first ≡ s.first → t.days ≡ s.days → t.lots.told ≡ s.lots.told
    → IsRecounted (signs_of s.lots) k m n (signs_of t.lots) → IsKept t
written s t k m n h there some entries first days costs signs =
    over s t k m n h there entries
    (subst (λ i. AreHoles i t.counts) (sym first)
    (subst (AreHoles s.first) (sym entries)
    (slot.holes_held s.first s.counts k m n h.holes there some)))
    days costs signs

-- a write to the slot of a hole, at or behind the first
pub filled : (s t : Slots) (k : Key) (i : ℕ) (n : ℤ) → IsKept s
    → position (same_key k) (keys_of s.counts) ≡ Some i
    → lookup (same_key k) s.counts ≡ Some (pos 0) → t.counts ≡ set_value_at s.counts i n
    → t.first ≤ s.first → t.first ≤ i → t.days ≡ s.days → t.lots.told ≡ s.lots.told
    → IsRecounted (signs_of s.lots) k (pos 0) n (signs_of t.lots) → IsKept t
filled s t k i n h at there entries first inside days costs signs =
    over s t k (pos 0) n h there (entries ∙ slot.written s.counts k i n at)
    (subst (AreHoles t.first) (sym entries)
    (slot.holes_written s.first s.counts i n t.first h.holes first inside))
    days costs signs

-- a slot more, of a hole
pub pushed : (s t : Slots) (k : Key) → IsKept s → t.counts ≡ s.counts ++ (k, pos 0) ∷ []
    → t.first ≡ s.first
    → (AreDays s.days s.counts → AreDays t.days (s.counts ++ (k, pos 0) ∷ []))
    → t.lots ≡ s.lots → IsTold (s.lots.told) k.lot → IsKept t
pushed s t k h entries first days lots own = record {
  holes =
      subst (λ i. AreHoles i t.counts) (sym first)
      (subst (AreHoles s.first) (sym entries) (slot.holes_more s.first s.counts (k, pos 0) h.holes));
  long = λ c.
      ap (λ x. (signs_of x c).long) lots ∙ h.long c
      ∙ sym (tally.hole_more (long_lot c) (tally.not_long c) s.counts k)
      ∙ ap (in_all (long_lot c)) (sym entries);
  short = λ c.
      ap (λ x. (signs_of x c).short) lots ∙ h.short c
      ∙ sym (tally.hole_more (short_lot c) (tally.not_short c) s.counts k)
      ∙ ap (in_all (short_lot c)) (sym entries);
  days = subst (AreDays t.days) (sym entries) (days h.days);
  told =
      subst (λ x. AreTold x t.counts) (sym (ap (λ x. x.told) lots))
      (subst (AreTold (s.lots.told)) (sym entries)
      (day.all_pushed (λ q. IsTold (s.lots.told) q.lot) s.counts k (pos 0) h.told own));
}

pub hole_out : (s t : Slots) (k : Key) → IsKept s
    → lookup (same_key k) s.counts ≡ Some (pos 0)
    → t.counts ≡ remove_entry (same_key k) s.counts
    → t.first ≡ s.first - 1 → t.days ≡ s.days → t.lots ≡ s.lots → t.lots.told ≡ s.lots.told → IsKept t
hole_out s t k h there entries first days signs costs = record {
  holes =
      subst (λ i. AreHoles i t.counts) (sym first)
      (subst (AreHoles (s.first - 1)) (sym entries)
      (slot.holes_out s.first (same_key k) s.counts h.holes));
  long = λ c.
      ap (λ x. (signs_of x c).long) signs ∙ h.long c
      ∙ sym (tally.taken_out (long_lot c) (tally.not_long c) s.counts k there)
      ∙ ap (in_all (long_lot c)) (sym entries);
  short = λ c.
      ap (λ x. (signs_of x c).short) signs ∙ h.short c
      ∙ sym (tally.taken_out (short_lot c) (tally.not_short c) s.counts k there)
      ∙ ap (in_all (short_lot c)) (sym entries);
  days =
      subst (λ d. AreDays d t.counts) (sym days)
      (subst (AreDays s.days) (sym entries)
      (λ e. day.taken_out s.days.latest (same_key k) s.counts (h.days e)));
  told =
      subst (λ x. AreTold x t.counts) (sym costs)
      (subst (AreTold (s.lots.told)) (sym entries)
      (day.all_out (λ q. IsTold (s.lots.told) q.lot) (same_key k) s.counts h.told));
}

-- without holes
pub swept_out : (s t : Slots) → IsKept s → t.counts ≡ filter is_full s.counts
    → t.first ≡ 0 → AreDays t.days t.counts
    → ((c : List ℕ) → signs_of t.lots c ≡ signs_of s.lots c) → t.lots.told ≡ None → IsKept t
swept_out s t h entries first days signs costs = record {
  holes = subst (λ i. AreHoles i t.counts) (sym first) tt;
  long = λ c.
      ap (λ x. x.long) (signs c) ∙ h.long c
      ∙ sym (swept.counted (long_lot c) (tally.not_long c) s.counts)
      ∙ ap (in_all (long_lot c)) (sym entries);
  short = λ c.
      ap (λ x. x.short) (signs c) ∙ h.short c
      ∙ sym (swept.counted (short_lot c) (tally.not_short c) s.counts)
      ∙ ap (in_all (short_lot c)) (sym entries);
  days = days;
  told = table.nothing_told (t.lots.told) t.counts costs;
}

-- a front that has all that is held
pub in_front : (s t : Slots) (n : ℕ) → IsKept s → t.counts ≡ take n s.counts
    → filter is_full (take n s.counts) ≡ filter is_full s.counts
    → t.first ≤ s.first → t.first ≤ n → AreDays t.days t.counts
    → ((c : List ℕ) → signs_of t.lots c ≡ signs_of s.lots c) → AreTold (t.lots.told) t.counts → IsKept t
in_front s t n h entries full first inside days signs costs = record {
  holes =
      subst (AreHoles t.first) (sym entries)
      (end.holes_in_front s.first n s.counts h.holes t.first first inside);
  long = λ c.
      ap (λ x. x.long) (signs c) ∙ h.long c ∙ same (long_lot c) (tally.not_long c)
      ∙ ap (in_all (long_lot c)) (sym entries);
  short = λ c.
      ap (λ x. x.short) (signs c) ∙ h.short c ∙ same (short_lot c) (tally.not_short c)
      ∙ ap (in_all (short_lot c)) (sym entries);
  days = days;
  told = costs;
}
  where
    same : (f : Key → ℤ → ℕ) (none : (k : Key) → f k (pos 0) ≡ 0)
        → in_all f s.counts ≡ in_all f (take n s.counts)
    same f none =
        sym (swept.counted f none s.counts) ∙ ap (in_all f) (sym full)
        ∙ swept.counted f none (take n s.counts)

pub front_days : (s : Slots) (n : ℕ) (es : List (Key × ℤ)) → IsKept s
    → es ≡ take n s.counts → AreDays s.days es
front_days s n es h entries =
    subst (AreDays s.days) (sym entries)
    (λ e. end.days_in_front s.days.latest n s.counts (h.days e))

pub front_told : (s : Slots) (n : ℕ) (es : List (Key × ℤ)) → IsKept s
    → es ≡ take n s.counts → AreTold (s.lots.told) es
front_told s n es h entries =
    subst (AreTold (s.lots.told)) (sym entries)
    (end.all_in_front {A = Key × ℤ} (λ e. IsTold (s.lots.told) e.0.lot) n s.counts h.told)

pub same_days : (s : Slots) (es : List (Key × ℤ)) → IsKept s
    → es ≡ filter is_full s.counts → AreDays s.days es
same_days s es h entries =
    subst (AreDays s.days) (sym entries)
    (λ e. days_left s.days.latest s.counts (h.days e))

pub few : (s : Slots) → IsKept s → length s.counts < 2 ^ 63 → AreFew (signs_of s.lots)
few s h small = record {
  long = λ c.
      let few = tally.few (long_lot c) (tally.one_long c) s.counts in
      let all = h.long c in
      omega (arith, few, all, small);
  short = λ c.
      let few = tally.few (short_lot c) (tally.one_short c) s.counts in
      let all = h.short c in
      omega (arith, few, all, small);
}

-- what is held under a key is counted
pub counted : (s : Slots) (k : Key) (m : ℤ) → IsKept s
    → lookup (same_key k) s.counts ≡ Some m → IsCounted (signs_of s.lots) k m
counted s k m h there = record {
  long = λ c.
      subst (λ n. long_lot c k m ≤ n) (sym (h.long c))
      (tally.part (long_lot c) s.counts k m there);
  short = λ c.
      subst (λ n. short_lot c k m ≤ n) (sym (h.short c))
      (tally.part (short_lot c) s.counts k m there);
}

-- where nothing is held, there is nothing to count
pub nothing_counted : (s : Slots) (k : Key) → IsCounted (signs_of s.lots) k (pos 0)
nothing_counted s k = record {
  long = λ c. let none = tally.not_long c k in omega (arith, none);
  short = λ c. let none = tally.not_short c k in omega (arith, none);
}
