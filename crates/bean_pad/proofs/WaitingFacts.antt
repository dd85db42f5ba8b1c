-- The pad that waits is the latest one on the account, unless a balance came after it.
use Rattle.std.proofs.Common.{◌≡◌, ℕ, ◌<◌, ◌≤◌, suc, Bool, true, false, cond, List, [], ◌∷◌, ◌++◌}
use Rattle.std.proofs.Common.{◌||◌, ◌↔◌, Option, None, Some, refl, sym, ap, ◌∙◌, arith, nat_lt}
use Rattle.std.specs.List.{list_any}
use Rattle.std.specs.Str.{bytes_eq}
use Rattle.std.proofs.lemmas.Bool.Decides.{nat_tests}
use Rattle.std.proofs.lemmas.Slice.Eq.{bytes_eq-Decides}
use Rattle.bean_base.specs.declared.days.Day.{Day}
use Rattle.bean_base.specs.declared.span.Place.{Place}
use Rattle.bean_pad.specs.Following.{latest_pad, pads_before, unless_used}
use Rattle.bean_pad.specs.Note.{is_on, pads_in, waiting}
use Rattle.bean_pad.specs.Waiting.{IsWaiting, is_between}
use Rattle.bean_directives.specs.declared.accounts.Pad.{Pad}
use Rattle.bean_pad.specs.declared.step.Step.{Step}
use Rattle.bean_pad.specs.declared.step.Step.TheVariants as step

chosen_le : (t : Bool) (m n : ℕ) → m ≤ n → cond t n m ≤ n
chosen_le true m n h = omega arith
chosen_le false m n h = h

chosen_lt : (t : Bool) (n k : ℕ) (o : Option ℕ) → (o ≡ Some k → k < n) → cond t (Some n) o ≡ Some k
    → k < suc n
chosen_lt true n k o h e = let same : n ≡ k = cc in omega arith
chosen_lt false n k o h e = let lt = h e in omega arith

before_le : (past : List Step) (a c : List ℕ) → pads_before past a c ≤ pads_in past
before_le [] a c = omega arith
before_le (step.Posting p u ∷ past) a c = before_le past a c
before_le (step.Pad p day at ∷ past) a c = let h = before_le past a c in omega arith
before_le (step.Balance b at cost ∷ past) a c =
    chosen_le (is_on a c b) (pads_before past a c) (pads_in past) (before_le past a c)

latest_lt : (past : List Step) (a : List ℕ) (k : ℕ) → latest_pad past a ≡ Some k → k < pads_in past
latest_lt [] a k e = cc
latest_lt (step.Posting p u ∷ past) a k e = latest_lt past a k e
latest_lt (step.Pad p day at ∷ past) a k e =
    chosen_lt (bytes_eq p.account a) (pads_in past) k (latest_pad past a) (latest_lt past a k) e
latest_lt (step.Balance b at cost ∷ past) a k e = latest_lt past a k e

none_left : (o : Option ℕ) (n : ℕ) → ((k : ℕ) → o ≡ Some k → k < n) → unless_used o n ≡ None
none_left None n h = refl
none_left (Some k) n h = by (nat_lt k n) refl
  where
    by : (t : Bool) → nat_lt k n ≡ t → cond t None (Some k) ≡ None
    by true e = refl
    by false e = let lt = h k refl in absurd (grind (arith, nat_tests))

some_left : (k n : ℕ) → n ≤ k → unless_used (Some k) n ≡ Some k
some_left k n h = grind (arith, nat_tests)

at_pad : (t : Bool) (n m : ℕ) (w o : Option ℕ) → m ≤ n → w ≡ unless_used o m
    → cond t (Some n) w ≡ unless_used (cond t (Some n) o) m
at_pad true n m w o h e = sym (some_left n m h)
at_pad false n m w o h e = e

at_balance : (t : Bool) (n m : ℕ) (w o : Option ℕ) → ((k : ℕ) → o ≡ Some k → k < n)
    → w ≡ unless_used o m → cond t None w ≡ unless_used o (cond t n m)
at_balance true n m w o h e = sym (none_left o n h)
at_balance false n m w o h e = e

pub waiting_is_unless_used : (past : List Step) (a c : List ℕ)
    → waiting past a c ≡ unless_used (latest_pad past a) (pads_before past a c)
waiting_is_unless_used [] a c = refl
waiting_is_unless_used (step.Posting p u ∷ past) a c = waiting_is_unless_used past a c
waiting_is_unless_used (step.Pad p day at ∷ past) a c =
    at_pad (bytes_eq p.account a) (pads_in past) (pads_before past a c) (waiting past a c)
    (latest_pad past a) (before_le past a c)
    (waiting_is_unless_used past a c)
waiting_is_unless_used (step.Balance b at cost ∷ past) a c =
    at_balance (is_on a c b) (pads_in past) (pads_before past a c) (waiting past a c)
    (latest_pad past a) (latest_lt past a)
    (waiting_is_unless_used past a c)

-- ---- by what stands between

-- one more step that isn't between
later_more : (s : Step) (past : List Step) (a c : List ℕ) (k : ℕ) → is_between a c s ≡ false
    → IsWaiting past a c k → IsWaiting (s ∷ past) a c k
later_more s past a c k apart w = record {
  later = s ∷ w.later;
  pad = w.pad;
  day = w.day;
  place = w.place;
  earlier = w.earlier;
  split = ap (λ l. s ∷ l) w.split;
  account_is = w.account_is;
  number_is = w.number_is;
  none = ap (λ b. b || list_any (is_between a c) w.later) apart ∙ w.none;
}

pad_here : (p : Pad) (day : Day) (at : Place) (past : List Step) (a c : List ℕ) (k : ℕ)
    → p.account ≡ a → k ≡ pads_in past
    → IsWaiting (step.Pad p day at ∷ past) a c k
pad_here p day at past a c k e n =
    record {
      later = [];
      pad = p;
      day = day;
      place = at;
      earlier = past;
      split = refl;
      account_is = e;
      number_is =
          n;
      none = refl;
    }

found_at_pad : (t : Bool) (p : Pad) (day : Day) (at : Place) (past : List Step) (a c : List ℕ)
    (k : ℕ)
    → bytes_eq p.account a ≡ t → (waiting past a c ≡ Some k → IsWaiting past a c k)
    → cond t (Some (pads_in past)) (waiting past a c) ≡ Some k → IsWaiting (step.Pad p day at ∷ past) a c k
found_at_pad true p day at past a c k b w e =
    pad_here p day at past a c k ((bytes_eq-Decides p.account a).0 b) (cc)
found_at_pad false p day at past a c k b w e = later_more (step.Pad p day at) past a c k b (w e)

found_at_balance : (t : Bool) (s : Step) (past : List Step) (a c : List ℕ) (k : ℕ)
    → is_between a c s ≡ t → (waiting past a c ≡ Some k → IsWaiting past a c k)
    → cond t None (waiting past a c) ≡ Some k → IsWaiting (s ∷ past) a c k
found_at_balance true s past a c k b w e = cc
found_at_balance false s past a c k b w e = later_more s past a c k b (w e)

found : (past : List Step) (a c : List ℕ) (k : ℕ) → waiting past a c ≡ Some k → IsWaiting past a c k
found [] a c k e = cc
found (step.Posting p u ∷ past) a c k e =
    later_more (step.Posting p u) past a c k refl (found past a c k e)
found (step.Pad p day at ∷ past) a c k e =
    found_at_pad (bytes_eq p.account a) p day at past a c k refl (found past a c k) e
found (step.Balance b at cost ∷ past) a c k e =
    found_at_balance (is_on a c b) (step.Balance b at cost) past a c k refl (found past a c k) e

neither : (x y : Bool) → (x || y) ≡ false → (x ≡ false) × (y ≡ false)
neither true y e = cc
neither false y e = (refl, e)

passed : (later earlier : List Step) (a c : List ℕ) (p : Pad) (day : Day) (at : Place)
    → p.account ≡ a
    → list_any (is_between a c) later ≡ false
    → waiting (later ++ step.Pad p day at ∷ earlier) a c ≡ Some (pads_in earlier)
passed [] earlier a c p day at same apart =
    ap (λ b. cond b (Some (pads_in earlier)) (waiting earlier a c))
    ((bytes_eq-Decides p.account a).1 same)
passed (step.Posting q u ∷ later) earlier a c p day at same apart =
    passed later earlier a c p day at same apart
passed (step.Pad q on there ∷ later) earlier a c p day at same apart =
    let n = neither (bytes_eq q.account a) (list_any (is_between a c) later) apart in
    ap (λ b. cond b (Some (pads_in (later ++ step.Pad p day at ∷ earlier)))
    (waiting (later ++ step.Pad p day at ∷ earlier) a c)) n.0
    ∙ passed later earlier a c p day at same n.1
passed (step.Balance b there cost ∷ later) earlier a c p day at same apart =
    let n = neither (is_on a c b) (list_any (is_between a c) later) apart in
    ap (λ t. cond t None (waiting (later ++ step.Pad p day at ∷ earlier) a c)) n.0
    ∙ passed later earlier a c p day at same n.1

pub waiting_is_first : (past : List Step) (a c : List ℕ) (k : ℕ)
    → (waiting past a c ≡ Some k) ↔ IsWaiting past a c k
waiting_is_first past a c k = (
  found past a c k,
  λ w. ap (λ p. waiting p a c) w.split
      ∙ passed w.later w.earlier a c w.pad w.day w.place w.account_is w.none ∙ ap Some (sym w.number_is),
)
