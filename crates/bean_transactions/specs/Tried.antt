-- A transaction that is tried: the postings that it is booked as, or its first fault.
use Rattle.std.specs.Prelude.{◌≡◌, ℕ, ◌+◌, ◌≤◌, ◌==◌, ◌⊎◌, Bool, true, false, List, [], ◌∷◌, ◌++◌}
use Rattle.std.specs.Prelude.{filter, map, reverse, slice_get, Option, Some, None, IfSome, Result}
use Rattle.std.specs.Prelude.{Ok, Err}
use Rattle.std.specs.List.{list_any}
use Rattle.std.proofs.Common.{arith}
use Rattle.bean_base.specs.declared.fault.FaultKind.TheVariants as kind
use Rattle.bean_base.specs.declared.num.Num.{Num}
use Rattle.bean_postings.specs.Posting.{is_outside_profile}
use Rattle.bean_postings.specs.declared.posting.Posting as postings
use Rattle.bean_postings.specs.declared.posting.Units as units_declared
use Rattle.bean_postings.specs.declared.posting.Units.TheVariants.{Missing, Currency, Amount}
use Rattle.bean_postings.specs.declared.posting.Units.TheVariants.{NumberAlone}
use Rattle.bean_postings.specs.declared.price.Price as prices
use Rattle.bean_postings.specs.declared.price.Price.TheVariants as price_kind
use Rattle.bean_interp.specs.Balance.{is_balanced}
use Rattle.bean_interp.specs.Completion.{Completes}
use Rattle.bean_interp.specs.declared.cause.CompletionCause.TheVariants as completion
use Rattle.refusals.specs.declared.refusal.Refusal.TheVariants.{Refused}
use Rattle.bean_interp.specs.declared.fill.Fill.{Fill}
use Rattle.bean_interp.specs.declared.leg.Leg.{Leg}
use Rattle.bean_interp.specs.declared.leg.Leg.TheVariants as leg
use Rattle.bean_interp.specs.declared.leg.Whole.{Whole}
use Rattle.bean_interp.specs.declared.leg.Worth.{Worth}
use Rattle.bean_interp.specs.declared.leg.Worth.TheVariants as worth
use Rattle.bean_lots.specs.declared.lot.Lot.{Lot}
use Rattle.bean_transactions.specs.Lined.{AreLined, IsFirstFault, Setting, fault_at}
use Rattle.bean_transactions.specs.Outcome.{StopsAt}
use Rattle.bean_transactions.specs.declared.line.Line.{Line}
use Rattle.bean_transactions.specs.declared.line.Line.TheVariants as line
use Rattle.bean_holdings.specs.declared.posted.Posted.{Posted}
use Rattle.bean_transactions.specs.declared.line.Tried as tried
use Rattle.bean_transactions.specs.declared.stop.LineFault.{LineFault}
use Rattle.refusals.specs.declared.refusal.Refusal.{Refusal}

-- ---- what lines weigh and lack

-- a cost goes before a price
abbrev pub worth_of : Option Lot → prices.Price → Worth
worth_of (Some lot) price = worth.Cost lot.cost
worth_of None price_kind.Absent = worth.Units
worth_of None (price_kind.PerUnit a) = worth.PerUnit a
worth_of None (price_kind.Total a) = worth.Total a
worth_of None price_kind.OutsideProfile = worth.Units

-- the number that is written for units
abbrev pub number_in : units_declared.Units → Option Num
number_in Missing = None
number_in (Currency c) = None
number_in (Amount a) = Some a.number
number_in NumberAlone = None

-- its decimals, 0 where none is written
abbrev pub decimals_of : Option Num → ℕ
decimals_of None = 0
decimals_of (Some n) = n.places

pub few_decimals : (n : Option Num) → decimals_of n ≤ 8
few_decimals None = omega arith
few_decimals (Some n) = n.in_range.0

-- a booked posting as a leg: the decimals are those that are written, of each take those of the
-- reduction's number
abbrev pub whole_of : Option Num → prices.Price → Posted → Whole
whole_of n price p = record {
  units = p.units;
  decimals = decimals_of n;
  worth = worth_of p.lot price;
  few = few_decimals n;
}

-- by the posting that it was written as
abbrev pub whole_at : Option postings.Posting → Posted → Whole
whole_at (Some w) p = whole_of (number_in w.units) w.details.price p
whole_at None p = whole_of None price_kind.Absent p

abbrev pub leg_of : List postings.Posting → Line → Leg
leg_of ps (line.Posted p) = leg.Whole (whole_at (slice_get ps p.written) p)
leg_of ps (line.Take p) = leg.Whole (whole_at (slice_get ps p.written) p)
leg_of ps (line.MissingNumber a c i) = leg.MissingNumber c
leg_of ps (line.MissingAmount a i) = leg.MissingAmount

abbrev pub legs_of : List postings.Posting → List Line → List Leg
legs_of ps ls = map (leg_of ps) ls

-- ---- what lines are booked as

abbrev pub filled_in : List ℕ → ℕ → Fill → Posted
filled_in account i f = record { account = account; units = f.amount; lot = None; written = i }

-- what is filled in at the k-th line
abbrev pub filled_at : List Fill → ℕ → List ℕ → ℕ → List Posted
filled_at fills k account i = map (filled_in account i) (filter (λ f. f.leg == k) fills)

abbrev pub posts_at : List Fill → ℕ → Line → List Posted
posts_at fills k (line.Posted p) = p ∷ []
posts_at fills k (line.Take p) = p ∷ []
posts_at fills k (line.MissingNumber a c i) = filled_at fills k a i
posts_at fills k (line.MissingAmount a i) = filled_at fills k a i

abbrev pub posts_from : List Fill → ℕ → List Line → List Posted
posts_from fills k [] = []
posts_from fills k (l ∷ ls) = posts_at fills k l ++ posts_from fills (k + 1) ls

-- the postings of the completed transaction, in order
abbrev pub completed : List Fill → List Line → List Posted
completed fills ls = posts_from fills 0 ls

-- what lines are booked as, once what they lack is filled in
pub record IsCompleted (ps : List postings.Posting) (lines : List Line) (posted : List Posted) :
    Type 0 where
  pub fills : List Fill
  pub completes : Completes (legs_of ps lines) (Ok fills)
  pub posted_is : posted ≡ completed fills lines

-- ---- the whole

abbrev pub is_outside : List postings.Posting → Bool
is_outside ps = list_any is_outside_profile ps

-- each posting has lines, and they can be completed
pub record IsKept (s : Setting) (ps : List postings.Posting) (posted : List Posted) : Type 0 where
  pub lines : List Line
  pub lined : AreLined s (reverse ps) lines
  pub completed : IsCompleted ps lines posted

-- F11, else F17, at the first line
abbrev pub LacksOrIsWide : ℕ → List Leg → LineFault → Type 0
LacksOrIsWide n legs f =
    (Completes legs (Err (Refused completion.LackTooMuch)) × (f ≡ fault_at kind.SeveralMissingAmounts n))
    ⊎ (Completes legs (Err (Refused completion.TooWide)) × (f ≡ fault_at kind.TooWide n))

-- each posting has lines, which can't be completed
pub record IsIncomplete (s : Setting) (ps : List postings.Posting) (f : LineFault) : Type 0 where
  pub lines : List Line
  pub lined : AreLined s (reverse ps) lines
  pub why : LacksOrIsWide s.head.line (legs_of ps lines) f

-- A transaction is kept as its postings, or dropped with its first fault: F12 by its form; then
-- that of the first posting that has one; then F11; then F17.
abbrev pub Tries : Setting → List postings.Posting → Result (List Posted) LineFault → Type 0
Tries s ps (Ok posted) = (is_outside ps ≡ false) × IsKept s ps posted
Tries s ps (Err f) =
    ((is_outside ps ≡ true) × (f ≡ fault_at kind.OutsideProfile s.head.line))
    ⊎ ((is_outside ps ≡ false) × (IsFirstFault s ps f ⊎ IsIncomplete s ps f))

-- what the program answers, of whose want of memory nothing is said
abbrev pub TriesOrLacks : Setting → List postings.Posting → Result tried.Tried (Refusal LineFault) → Type 0
TriesOrLacks s ps (Ok t) = Tries s ps (Ok t.posted)
TriesOrLacks s ps (Err e) = StopsAt (λ f. Tries s ps (Err f)) e

-- ---- what is booked weighs

abbrev pub booked_leg : List postings.Posting → Posted → Leg
booked_leg ps p = leg.Whole (whole_at (slice_get ps p.written) p)

-- the booked postings of a transaction as legs
abbrev pub booked_legs : List postings.Posting → List Posted → List Leg
booked_legs ps posted = map (booked_leg ps) posted

-- whether the transaction balances, where that is known of what it is booked as
abbrev pub KnowsBalance : List postings.Posting → tried.Tried → Type 0
KnowsBalance ps t = IfSome t.balances (λ b. b ≡ is_balanced (booked_legs ps t.posted))
