-- Something comes of each posting.
use Rattle.std.proofs.Common.{◌≡◌, ◌⊎◌, inl, inr, ℕ, ℤ, zero, suc, pos, neg_ℤ, ◌<◌, ◌^◌, Bool}
use Rattle.std.proofs.Common.{true, false, ◌||◌, ◌&&◌, not, cond, List, [], ◌∷◌, sum_by}
use Rattle.std.proofs.Common.{Option, Some, None, Result, Ok, Err, refl, arith}
use Rattle.std.specs.Prelude.{unwrap_or}
use Rattle.std.specs.Int.RustNames.{unsigned_abs}
use Rattle.std.specs.Int.Signed.{lt_z}
use Rattle.std.specs.List.{AllByRecursion}
use Rattle.std.proofs.lemmas.List.Sums.{sum_by-cons}
use Rattle.bean_base.proofs.PowerFacts.{scaled_lt}
use Rattle.bean_base.specs.declared.amounts.Amount as amounts
use Rattle.bean_base.specs.declared.fault.FaultKind.{FaultKind}
use Rattle.bean_base.specs.declared.fault.FaultKind.TheVariants as kind
use Rattle.bean_base.specs.declared.num.Num.{Num}
use Rattle.bean_reductions.specs.Candidate.{candidates}
use Rattle.bean_reductions.specs.Reduction.{IsReduction}
use Rattle.bean_reductions.specs.Take.{signed_take, signed_takes, units_of, with_sign}
use Rattle.bean_lots.specs.declared.lot.Cost.{Cost}
use Rattle.bean_lots.specs.declared.lot.Lot.{Lot}
use Rattle.bean_lots.specs.declared.lot.Position.{Position}
use Rattle.bean_reductions.specs.declared.reduction.Method.{Method}
use Rattle.bean_reductions.specs.declared.reduction.Method.TheVariants as method
use Rattle.bean_reductions.specs.declared.reduction.Selector.{Selector}
use Rattle.bean_postings.specs.Posting.{has_number, is_left_out, is_number_alone}
use Rattle.bean_postings.specs.Posting.{is_outside_profile}
use Rattle.bean_postings.specs.Posting.{is_written}
use Rattle.bean_postings.specs.declared.cost.Cost as costs
use Rattle.bean_postings.specs.declared.cost.Cost.TheVariants as cost_kind
use Rattle.bean_postings.specs.declared.cost.LotParts.{LotParts}
use Rattle.bean_postings.specs.declared.posting.Posting.{Posting}
use Rattle.bean_postings.specs.declared.posting.Units as units_declared
use Rattle.bean_postings.specs.declared.posting.Units.TheVariants.{Missing, Currency, Amount}
use Rattle.bean_postings.specs.declared.posting.Units.TheVariants.{NumberAlone}
use Rattle.bean_postings.specs.declared.price.Price as prices
use Rattle.bean_base.specs.Counts.{at_8}
use Rattle.bean_transactions.specs.Held.{left}
use Rattle.bean_transactions.specs.Lined.{AreTakeLines, IsAugmented, IsCostIn, IsInBraces, IsLinedByCost}
use Rattle.bean_transactions.specs.Lined.{IsLinedByUnits, IsNext, IsReduced, IsReducedBy, IsTakeLine}
use Rattle.bean_transactions.specs.Lined.{IsWhy}
use Rattle.bean_transactions.specs.Lined.{Setting, fault_at, is_reduction, without_lot}
use Rattle.bean_transactions.specs.declared.line.Line.{Line}
use Rattle.bean_transactions.specs.declared.line.Line.TheVariants as line
use Rattle.bean_holdings.specs.declared.posted.Posted.{Posted}
use Rattle.bean_transactions.specs.declared.setting.Head.{Head}
use Rattle.bean_transactions.specs.declared.stop.LineFault.{LineFault}
use Rattle.bean_transactions.proofs.OneLine.{never_both}

-- ---- what can't be lacking

abbrev pub Comes : Type 0 → Type 0
Comes a = ¬ (¬ a)

pub comes : {A : Type 0} → A → Comes A
comes x k = k x

pub behind : {A B : Type 0} → Comes A → (A → Comes B) → Comes B
behind h f k = h (λ x. f x k)

pub either_way : (A : Type 0) → Comes (A ⊎ (¬ A))
either_way A k = k (inr (λ x. k (inl x)))

-- ---- reductions

abbrev Lines : Type 0
Lines = Result (List Line) LineFault

pub few_at_8 : (n : Num) → unsigned_abs (at_8 n) < 10 ^ 20
few_at_8 n = scaled_lt n.count n.places 8 n.in_range.1 n.in_range.0 (omega arith)

abs_neg : (n : ℕ) → unsigned_abs (neg_ℤ (pos n)) ≡ n
abs_neg zero = refl
abs_neg (suc n) = refl

abs_signed : (want : ℤ) (n : ℕ) → unsigned_abs (with_sign want n) ≡ n
abs_signed want n = by (lt_z want (pos 0))
  where
    by : (b : Bool) → unsigned_abs (cond b (neg_ℤ (pos n)) (pos n)) ≡ n
    by true = abs_neg n
    by false = refl

abbrev number_of : (z : ℤ) → unsigned_abs z < 10 ^ 20 → Num
number_of z few =
    record { count = z; places = 8; in_range = (omega arith, omega (arith, few)); small = few }

small_signed : (want : ℤ) (n : ℕ) → n < 10 ^ 20 → unsigned_abs (with_sign want n) < 10 ^ 20
small_signed want n few = rw (abs_signed want n) few

abbrev taken : (account currency : List ℕ) (i : ℕ) (want : ℤ) (t : Lot × ℕ) → t.1 < 10 ^ 20 → Posted
taken account currency i want t few = record {
  account = account;
  units = record {
    number = number_of (with_sign want t.1) (small_signed want t.1 few);
    currency = currency;
  };
  lot = Some t.0;
  written = i;
}

take_line :
    (account currency : List ℕ) (i : ℕ) (want : ℤ) (t : Lot × ℕ) → t.1 < 10 ^ 20
    → (l : Line) × IsTakeLine account currency i (signed_take want t) l
take_line account currency i want t few = (
  line.Take (taken account currency i want t few),
  (
    taken account currency i want t few,
    refl,
    record {
      account_is = refl;
      currency_is = refl;
      count_is = refl;
      places_are = refl;
      lot_is = refl;
      written_is = refl;
    },
  ),
)

take_lines :
    (account currency : List ℕ) (i : ℕ) (want : ℤ) (ts : List (Lot × ℕ))
    → AllByRecursion (λ t. t.1 < 10 ^ 20) ts
    → (ls : List Line) × AreTakeLines account currency i (signed_takes want ts) ls
take_lines account currency i want [] few = ([], tt)
take_lines account currency i want (t ∷ ts) few =
    let first = take_line account currency i want t few.0 in
    let rest = take_lines account currency i want ts few.1 in
    (first.0 ∷ rest.0, (first.1, rest.1))

small_takes : (most : ℕ) (ts : List (Lot × ℕ)) → sum_by units_of ts < most
    → AllByRecursion (λ t. t.1 < most) ts
small_takes most [] h = tt
small_takes most (t ∷ ts) h =
    let sum = sum_by-cons units_of t ts in
    (omega (arith, sum, h), small_takes most ts (omega (arith, sum, h)))

why : (m : Method) (cs : List (Lot × ℕ)) → (k : FaultKind) × IsWhy m cs k
why m [] = (kind.NoLotMatches, inl (refl, refl))
why m (c ∷ []) = (kind.NotEnoughUnits, inr (inr (omega arith, (λ _. refl), refl)))
why method.Strict (c ∷ d ∷ cs) = (kind.AmbiguousLots, inr (inl (refl, omega arith, refl)))
why method.Fifo (c ∷ d ∷ cs) =
    (kind.NotEnoughUnits, inr (inr (omega arith, (λ e. absurd (cc)), refl)))
why method.Lifo (c ∷ d ∷ cs) =
    (kind.NotEnoughUnits, inr (inr (omega arith, (λ e. absurd (cc)), refl)))
why method.None (c ∷ d ∷ cs) =
    (kind.NotEnoughUnits, inr (inr (omega arith, (λ e. absurd (cc)), refl)))

reduced :
    (m : Method) (cs : List (Lot × ℕ)) (account : List ℕ) (units : amounts.Amount) (i n : ℕ)
    → ((ts : List (Lot × ℕ)) × IsReduction m cs (unsigned_abs (at_8 units.number)) ts)
    ⊎ (¬ ((ts : List (Lot × ℕ)) × IsReduction m cs (unsigned_abs (at_8 units.number)) ts))
    → (r : Lines) × IsReduced m cs account units i n r
reduced m cs account units i n (inl h) =
    let want = at_8 units.number in
    let few = small_takes (10 ^ 20) h.0 (rw h.1.taken.total (few_at_8 units.number)) in
    let lines = take_lines account units.currency i want h.0 few in
    (Ok lines.0, (h.0, h.1, lines.1))
reduced m cs account units i n (inr h) =
    let reason = why m cs in
    (Err (fault_at reason.0 n), ((λ ts is. h (ts, is)), reason.1, refl))

abbrev cost_of : amounts.Amount → Cost
cost_of a = record { currency = a.currency; count = at_8 a.number; small = few_at_8 a.number }

cost_in : (o : Option amounts.Amount) → (c : Option Cost) × IsCostIn o c
cost_in None = (None, tt)
cost_in (Some a) = (Some (cost_of a), (refl, refl))

abbrev selector_of : List ℕ → LotParts → Selector
selector_of currency parts = record {
  currency = currency;
  cost = (cost_in parts.amount).0;
  day = parts.day;
  label = parts.label;
}

reduced_by :
    (m : Method) (rest : List Position) (parts : LotParts) (account : List ℕ)
    (units : amounts.Amount) (i n : ℕ)
    → Comes ((r : Lines) × IsReducedBy m rest parts account units i n r)
reduced_by m rest parts account units i n =
    let s = selector_of units.currency parts in
    let cs = candidates s (at_8 units.number) rest in
    behind
    (either_way ((ts : List (Lot × ℕ)) × IsReduction m cs (unsigned_abs (at_8 units.number)) ts))
    (λ way. let found = reduced m cs account units i n way in
    comes (
      found.0,
      (
        s,
        record {
          currency_is = refl;
          cost_is = (cost_in parts.amount).1;
          day_is = refl;
          label_is = refl;
        },
        found.1,
      ),
    ))

-- ---- augmentations

augmented :
    (head : Head) (parts : LotParts) (o : Option amounts.Amount) (account : List ℕ)
    (units : amounts.Amount) (i n : ℕ)
    → (r : Lines) × IsAugmented head parts o account units i n r
augmented head parts None account units i n =
    (Err (fault_at kind.OutsideProfile head.line), refl)
augmented head parts (Some cost) account units i n = by (lt_z cost.number.count (pos 0)) refl
  where
    lot : Lot
    lot = record {
      cost = cost_of cost;
      day = unwrap_or parts.day head.day;
      label = parts.label;
    }

    by : (b : Bool) → lt_z cost.number.count (pos 0) ≡ b
        → (r : Lines) × IsAugmented head parts (Some cost) account units i n r
    by true e = (Err (fault_at kind.NegativeCost n), (e, refl))
    by false e = (
      Ok
          (line.Posted record { account = account; units = units; lot = Some lot; written = i }
          ∷ []),
      (e, lot, ((refl, refl), refl, refl), refl),
    )

in_braces :
    (m : Method) (rest : List Position) (head : Head) (parts : LotParts) (account : List ℕ)
    (units : amounts.Amount) (i n : ℕ)
    → Comes ((r : Lines) × IsInBraces m rest head parts account units i n r)
in_braces m rest head parts account units i n = by (is_reduction m rest units) refl
  where
    by : (b : Bool) → is_reduction m rest units ≡ b
        → Comes ((r : Lines) × IsInBraces m rest head parts account units i n r)
    by true e =
        behind (reduced_by m rest parts account units i n)
        (λ h. comes (h.0, ((λ _. h.1), (λ f. absurd (never_both _ e f)))))
    by false e =
        let h = augmented head parts parts.amount account units i n in
        comes (h.0, ((λ f. absurd (never_both _ f e)), (λ _. h.1)))

-- ---- posting by posting

by_cost :
    (m : Method) (rest : List Position) (head : Head) (account : List ℕ) (units : amounts.Amount)
    (cost : costs.Cost) (price : prices.Price) (i n : ℕ) → is_left_out cost price ≡ false
    → Comes ((r : Lines) × IsLinedByCost m rest head account units cost i n r)
by_cost m rest head account units cost_kind.Absent price i n h =
    comes (Ok (without_lot account units i ∷ []), refl)
by_cost m rest head account units (cost_kind.Lot parts) price i n h =
    in_braces m rest head parts account units i n
by_cost m rest head account units cost_kind.OutsideProfile price i n h = absurd (cc)

neither : (a : Bool) → (a || false) ≡ false → a ≡ false
neither true h = cc
neither false h = refl

by_units :
    (m : Method) (rest : List Position) (head : Head) (account : List ℕ)
    (units : units_declared.Units) (cost : costs.Cost) (price : prices.Price) (i n : ℕ)
    → (is_number_alone units || (is_left_out cost price || (not (has_number units)
    && is_written cost price))) ≡ false
    → Comes ((r : Lines) × IsLinedByUnits m rest head account units cost i n r)
by_units m rest head account Missing cost price i n h =
    comes (Ok (line.MissingAmount account i ∷ []), refl)
by_units m rest head account (Currency c) cost price i n h =
    comes (Ok (line.MissingNumber account c i ∷ []), refl)
by_units m rest head account (Amount units) cost price i n h =
    by_cost m rest head account units cost price i n (neither (is_left_out cost price) h)
by_units m rest head account NumberAlone cost price i n h = absurd (cc)

-- lines or a fault come of a posting in the profile
pub each_next : (s : Setting) (ls : List Line) (i : ℕ) (p : Posting)
    → is_outside_profile p ≡ false → Comes ((r : Lines) × IsNext s ls i p r)
each_next s ls i p h =
    by_units (s.method_of p.account) (left p.account s.before ls) s.head p.account p.units
    p.details.cost p.details.price i p.details.line h
