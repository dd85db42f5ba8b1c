-- What comes of the postings of a transaction, one by one.
use Rattle.std.specs.Prelude.{◌≡◌, ◌<◌, ◌⊎◌, ℕ, ℤ, pos, ◌&&◌, Bool, true, false, List, [], ◌∷◌}
use Rattle.std.specs.Prelude.{◌++◌}
use Rattle.std.specs.Prelude.{length, reverse, Option, Some, None, Result, Ok, Err, unwrap_or}
use Rattle.std.specs.Int.RustNames.{unsigned_abs}
use Rattle.std.specs.Int.Signed.{lt_z}
use Rattle.bean_base.specs.declared.amounts.Amount as amounts
use Rattle.bean_base.specs.declared.fault.FaultKind.{FaultKind}
use Rattle.bean_base.specs.declared.fault.FaultKind.TheVariants as kind
use Rattle.bean_postings.specs.declared.cost.Cost as costs
use Rattle.bean_postings.specs.declared.cost.Cost.TheVariants as cost_kind
use Rattle.bean_postings.specs.declared.cost.LotParts.{LotParts}
use Rattle.bean_postings.specs.declared.posting.Posting as postings
use Rattle.bean_postings.specs.declared.posting.Units as units_declared
use Rattle.bean_postings.specs.declared.posting.Units.TheVariants.{Missing, Currency, Amount}
use Rattle.bean_postings.specs.declared.posting.Units.TheVariants.{NumberAlone}
use Rattle.bean_reductions.specs.After.{has_opposite}
use Rattle.bean_reductions.specs.Candidate.{candidates}
use Rattle.bean_reductions.specs.Reduction.{IsReduction, HasNoReduction}
use Rattle.bean_reductions.specs.Take.{signed_takes}
use Rattle.bean_lots.specs.declared.lot.Cost.{Cost}
use Rattle.bean_lots.specs.declared.lot.Lot.{Lot}
use Rattle.bean_lots.specs.declared.lot.Position.{Position}
use Rattle.bean_reductions.specs.declared.reduction.Method.{Method}
use Rattle.bean_reductions.specs.declared.reduction.Method.TheVariants as method
use Rattle.bean_reductions.specs.declared.reduction.Selector.{Selector}
use Rattle.bean_base.specs.Counts.{at_8}
use Rattle.bean_transactions.specs.Held.{left}
use Rattle.bean_transactions.specs.declared.line.Line.{Line}
use Rattle.bean_transactions.specs.declared.line.Line.TheVariants as line
use Rattle.bean_holdings.specs.declared.posted.Posted.{Posted}
use Rattle.bean_transactions.specs.declared.setting.Head.{Head}
use Rattle.bean_transactions.specs.declared.stop.LineFault.{LineFault}

-- what is the same for all postings of a transaction: the methods of accounts, what was booked
-- before, and its day and first line
pub record Setting : Type 0 where
  pub method_of : List ℕ → Method
  pub before : List Posted
  pub head : Head

abbrev pub fault_at : FaultKind → ℕ → LineFault
fault_at k n = record { kind = k; line = n }

-- ---- reductions

abbrev pub reduces : Method → Bool
reduces method.None = false
reduces m = true

-- a cost in counts of 10^-8
abbrev pub IsCostOf : amounts.Amount → Cost → Type 0
IsCostOf a c = (c.currency ≡ a.currency) × (c.count ≡ at_8 a.number)

abbrev pub IsCostIn : Option amounts.Amount → Option Cost → Type 0
IsCostIn None None = Unit {0}
IsCostIn (Some a) (Some c) = IsCostOf a c
IsCostIn None (Some c) = ⊥
IsCostIn (Some a) None = ⊥

-- the selector that braces write
pub record IsSelector (currency : List ℕ) (parts : LotParts) (s : Selector) : Type 0 where
  pub currency_is : s.currency ≡ currency
  pub cost_is : IsCostIn parts.amount s.cost
  pub day_is : s.day ≡ parts.day
  pub label_is : s.label ≡ parts.label

-- a posting in braces is a reduction where a lot that is left has the opposite sign, unless the
-- method chooses none
abbrev pub is_reduction : Method → List Position → amounts.Amount → Bool
is_reduction m rest units = reduces m && has_opposite units.currency (at_8 units.number) rest

-- the line of one take: its lot, and its number by count and places
pub record IsTakeOf (account currency : List ℕ) (i : ℕ) (t : Lot × ℤ × ℕ) (p : Posted) :
    Type 0 where
  pub account_is : p.account ≡ account
  pub currency_is : p.units.currency ≡ currency
  pub count_is : p.units.number.count ≡ t.1
  pub places_are : p.units.number.places ≡ t.2
  pub lot_is : p.lot ≡ Some t.0
  pub written_is : p.written ≡ i

abbrev pub IsTakeLine : List ℕ → List ℕ → ℕ → Lot × ℤ × ℕ → Line → Type 0
IsTakeLine account currency i t l = (p : Posted) × (l ≡ line.Take p)
    × IsTakeOf account currency i t p

-- the lines of takes, in their order
abbrev pub AreTakeLines : List ℕ → List ℕ → ℕ → List (Lot × ℤ × ℕ) → List Line → Type 0
AreTakeLines account currency i [] [] = Unit {0}
AreTakeLines account currency i [] (l ∷ ls) = ⊥
AreTakeLines account currency i (t ∷ ts) [] = ⊥
AreTakeLines account currency i (t ∷ ts) (l ∷ ls) =
    IsTakeLine account currency i t l × AreTakeLines account currency i ts ls

-- F13 without a candidate, else F14 with several under STRICT, else F15
abbrev pub IsWhy : Method → List (Lot × ℕ) → FaultKind → Type 0
IsWhy m cs k =
    ((length cs ≡ 0) × (k ≡ kind.NoLotMatches))
    ⊎ (((m ≡ method.Strict) × (1 < length cs) × (k ≡ kind.AmbiguousLots))
    ⊎ ((0 < length cs) × (m ≡ method.Strict → length cs ≡ 1) × (k ≡ kind.NotEnoughUnits)))

-- a reduction is replaced by its takes
abbrev pub IsReduced : Method → List (Lot × ℕ) → List ℕ → amounts.Amount → ℕ → ℕ
    → Result (List Line) LineFault → Type 0
IsReduced m cs account units i n (Ok ls) =
    (ts : List (Lot × ℕ)) × IsReduction m cs (unsigned_abs (at_8 units.number)) ts
    × AreTakeLines account units.currency i (signed_takes (at_8 units.number) ts) ls
IsReduced m cs account units i n (Err f) =
    HasNoReduction m cs (unsigned_abs (at_8 units.number)) × IsWhy m cs f.kind × (f.line ≡ n)

-- the candidates are those of what is left
abbrev pub IsReducedBy : Method → List Position → LotParts → List ℕ → amounts.Amount → ℕ → ℕ
    → Result (List Line) LineFault → Type 0
IsReducedBy m rest parts account units i n r =
    (s : Selector) × IsSelector units.currency parts s
    × IsReduced m (candidates s (at_8 units.number) rest) account units i n r

-- ---- augmentations

-- the lot of the transaction's day, unless another is given
abbrev pub IsLotOf : Head → LotParts → amounts.Amount → Lot → Type 0
IsLotOf head parts cost lot =
    IsCostOf cost lot.cost × (lot.day ≡ unwrap_or parts.day head.day) × (lot.label ≡ parts.label)

-- F12 at the transaction without a cost, F16 at the posting where it is below 0
abbrev pub IsAugmented : Head → LotParts → Option amounts.Amount → List ℕ → amounts.Amount → ℕ → ℕ
    → Result (List Line) LineFault → Type 0
IsAugmented head parts None account units i n r = r ≡ Err (fault_at kind.OutsideProfile head.line)
IsAugmented head parts (Some cost) account units i n (Err f) =
    (lt_z cost.number.count (pos 0) ≡ true) × (f ≡ fault_at kind.NegativeCost n)
IsAugmented head parts (Some cost) account units i n (Ok ls) =
    (lt_z cost.number.count (pos 0) ≡ false)
    × (lot : Lot) × IsLotOf head parts cost lot
    × (ls
    ≡ line.Posted record { account = account; units = units; lot = Some lot; written = i } ∷ [])

abbrev pub IsInBraces : Method → List Position → Head → LotParts → List ℕ → amounts.Amount → ℕ → ℕ
    → Result (List Line) LineFault → Type 0
IsInBraces m rest head parts account units i n r =
    (is_reduction m rest units ≡ true → IsReducedBy m rest parts account units i n r)
    × (is_reduction m rest units ≡ false
    → IsAugmented head parts parts.amount account units i n r)

-- ---- posting by posting

abbrev pub without_lot : List ℕ → amounts.Amount → ℕ → Line
without_lot account units i =
    line.Posted record { account = account; units = units; lot = None; written = i }

abbrev pub IsLinedByCost : Method → List Position → Head → List ℕ → amounts.Amount → costs.Cost
    → ℕ → ℕ → Result (List Line) LineFault → Type 0
IsLinedByCost m rest head account units cost_kind.Absent i n r =
    r ≡ Ok (without_lot account units i ∷ [])
IsLinedByCost m rest head account units (cost_kind.Lot parts) i n r =
    IsInBraces m rest head parts account units i n r
IsLinedByCost m rest head account units cost_kind.OutsideProfile i n r = ⊥

-- what comes of units; none is outside the profile
abbrev pub IsLinedByUnits : Method → List Position → Head → List ℕ → units_declared.Units
    → costs.Cost → ℕ → ℕ → Result (List Line) LineFault → Type 0
IsLinedByUnits m rest head account Missing cost i n r = r ≡ Ok (line.MissingAmount account i ∷ [])
IsLinedByUnits m rest head account (Currency c) cost i n r =
    r ≡ Ok (line.MissingNumber account c i ∷ [])
IsLinedByUnits m rest head account (Amount units) cost i n r =
    IsLinedByCost m rest head account units cost i n r
IsLinedByUnits m rest head account NumberAlone cost i n r = ⊥

-- what comes of the i-th posting behind the lines ls of the transaction: its lines, or its fault
abbrev pub IsNext : Setting → List Line → ℕ → postings.Posting → Result (List Line) LineFault
    → Type 0
IsNext s ls i p r =
    IsLinedByUnits (s.method_of p.account) (left p.account s.before ls) s.head p.account p.units
    p.details.cost i p.details.line r

-- the lines of postings, the latest of which stands first
abbrev pub AreLined : Setting → List postings.Posting → List Line → Type 0
AreLined s [] ls = ls ≡ []
AreLined s (p ∷ ps) ls =
    (earlier new : List Line) × AreLined s ps earlier × IsNext s earlier (length ps) p (Ok new)
    × (ls ≡ earlier ++ new)

-- the first posting with a fault: those before it have lines
pub record IsFirstFault (s : Setting) (ps : List postings.Posting) (f : LineFault) : Type 0 where
  pub earlier : List postings.Posting
  pub at : postings.Posting
  pub later : List postings.Posting
  pub split : ps ≡ reverse earlier ++ at ∷ later
  pub lines : List Line
  pub lined : AreLined s earlier lines
  pub fault : IsNext s lines (length earlier) at (Err f)
