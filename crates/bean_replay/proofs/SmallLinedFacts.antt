-- The lines of a transaction are small where its postings are, and what was booked before.
use Rattle.std.proofs.Common.{◌≡◌, ℕ, ℤ, Bool, true, false, List, [], ◌∷◌, length, Option}
use Rattle.std.proofs.Common.{Some, None, IfSome, Result, Ok, Err, refl, sym, subst}
use Rattle.std.specs.List.{AllByRecursion}
use Rattle.bean_base.specs.declared.amounts.Amount as amounts
use Rattle.bean_postings.specs.declared.cost.Cost as costs
use Rattle.bean_postings.specs.declared.cost.Cost.TheVariants as cost_kind
use Rattle.bean_postings.specs.declared.cost.LotParts.{LotParts}
use Rattle.bean_postings.specs.declared.posting.Posting.{Posting}
use Rattle.bean_postings.specs.declared.posting.Units as units_declared
use Rattle.bean_postings.specs.declared.posting.Units.TheVariants.{Missing, Currency, Amount}
use Rattle.bean_postings.specs.declared.posting.Units.TheVariants.{NumberAlone}
use Rattle.bean_reductions.specs.Take.{signed_takes}
use Rattle.bean_lots.specs.declared.lot.Lot.{Lot}
use Rattle.bean_lots.specs.declared.lot.Position.{Position}
use Rattle.bean_reductions.specs.declared.reduction.Method.{Method}
use Rattle.bean_base.specs.Counts.{at_8}
use Rattle.bean_transactions.specs.Held.{left}
use Rattle.bean_transactions.specs.Lined.{AreLined, AreTakeLines, IsAugmented, IsLinedByCost}
use Rattle.bean_transactions.specs.Lined.{IsLinedByUnits, IsLotOf, IsReducedBy, IsTakeOf, Setting}
use Rattle.bean_transactions.specs.Lined.{is_reduction}
use Rattle.bean_transactions.specs.declared.line.Line.{Line}
use Rattle.bean_transactions.specs.declared.line.Line.TheVariants as line
use Rattle.bean_holdings.specs.declared.posted.Posted.{Posted}
use Rattle.bean_transactions.specs.declared.setting.Head.{Head}
use Rattle.bean_transactions.specs.declared.stop.LineFault.{LineFault}
use Rattle.bean_replay.specs.Small.{IsSmallLot, IsSmallPosted}
use Rattle.bean_directives.specs.SmallPart.{AreShortUnits, IsShort, IsShortCost, IsShortCurrency}
use Rattle.bean_directives.specs.SmallPart.{IsSmallPosting}
use Rattle.theory.proofs.AllFacts.{all_joined}
use Rattle.bean_replay.proofs.SmallTakenFacts.{ArePositions, IsSmallSigned, left_small, reduced_small}

abbrev pub IsSmallLine : Line → Type 0
IsSmallLine (line.Posted p) = IsSmallPosted p
IsSmallLine (line.Take p) = IsSmallPosted p
IsSmallLine (line.MissingNumber a c i) = IsShort a × IsShortCurrency c
IsSmallLine (line.MissingAmount a i) = IsShort a

abbrev pub AreSmallLines : List Line → Type 0
AreSmallLines ls = AllByRecursion IsSmallLine ls

-- ---- reductions

take_small : (account currency : List ℕ) (i : ℕ) (t : Lot × ℤ × ℕ) (p : Posted)
    → IsTakeOf account currency i t p → IsShort account → IsShortCurrency currency
    → IsSmallSigned t → IsSmallPosted p
take_small account currency i t p is a c small = record {
  account = subst IsShort (sym is.account_is) a;
  currency = subst IsShortCurrency (sym is.currency_is) c;
  lot = subst (λ (o : Option Lot). IfSome o IsSmallLot) (sym is.lot_is) small;
}

takes_small : (account currency : List ℕ) (i : ℕ) (ts : List (Lot × ℤ × ℕ)) (ls : List Line)
    → AreTakeLines account currency i ts ls → IsShort account → IsShortCurrency currency
    → AllByRecursion IsSmallSigned ts → AreSmallLines ls
takes_small account currency i [] [] h a c all = tt
takes_small account currency i [] (l ∷ ls) h a c all = absurd h
takes_small account currency i (t ∷ ts) [] h a c all = absurd h
takes_small account currency i (t ∷ ts) (l ∷ ls) h a c all = (
  subst IsSmallLine (sym h.0.1) (take_small account currency i t h.0.0 h.0.2 a c all.0),
  takes_small account currency i ts ls h.1 a c all.1,
)

reduction_small : (m : Method) (rest : List Position) (parts : LotParts) (account : List ℕ)
    (units : amounts.Amount) (i n : ℕ) (ls : List Line)
    → IsReducedBy m rest parts account units i n (Ok ls) → IsShort account
    → IsShortCurrency units.currency → ArePositions rest → AreSmallLines ls
reduction_small m rest parts account units i n ls h a c all =
    takes_small account units.currency i (signed_takes (at_8 units.number) h.2.0) ls h.2.2 a c
    (reduced_small m h.0 (at_8 units.number) rest h.2.0 h.2.1 all)

-- ---- augmentations

abbrev same : Result (List Line) LineFault → Result (List Line) LineFault → Type 0
same a b = a ≡ b

ok_is : (x y : List Line) → same (Ok x) (Ok y) → x ≡ y
ok_is x y e = cc

differ : (x : List Line) (y : LineFault) → same (Ok x) (Err y) → ⊥
differ x y e = cc

lot_small : (head : Head) (parts : LotParts) (cost : amounts.Amount) (lot : Lot)
    → IsLotOf head parts cost lot → IsShortCurrency cost.currency → IfSome parts.label IsShort
    → IsSmallLot lot
lot_small head parts cost lot is c label = (
  subst IsShortCurrency (sym is.0.0) c,
  subst (λ (o : Option (List ℕ)). IfSome o IsShort) (sym is.2) label,
)

posted_small : (account : List ℕ) (units : amounts.Amount) (lot : Option Lot) (i : ℕ)
    (ls : List Line)
    → ls ≡ line.Posted record { account = account; units = units; lot = lot; written = i } ∷ []
    → IsShort account → IsShortCurrency units.currency → IfSome lot IsSmallLot
    → AreSmallLines ls
posted_small account units lot i ls e a c small =
    subst AreSmallLines (sym e) (record { account = a; currency = c; lot = small }, tt)

augmented_small : (head : Head) (parts : LotParts) (cost : Option amounts.Amount)
    (account : List ℕ) (units : amounts.Amount) (i n : ℕ) (ls : List Line)
    → IsAugmented head parts cost account units i n (Ok ls) → IsShort account
    → IsShortCurrency units.currency → IfSome cost (λ a. IsShortCurrency a.currency)
    → IfSome parts.label IsShort → AreSmallLines ls
augmented_small head parts None account units i n ls h a c amount label =
    absurd (differ ls _ h)
augmented_small head parts (Some cost) account units i n ls h a c amount label =
    posted_small account units (Some h.1) i ls h.3 a c
    (lot_small head parts cost h.1 h.2 amount label)

-- ---- posting by posting

by_cost : (m : Method) (rest : List Position) (head : Head) (account : List ℕ)
    (units : amounts.Amount) (cost : costs.Cost) (i n : ℕ) (ls : List Line)
    → IsLinedByCost m rest head account units cost i n (Ok ls) → IsShort account
    → IsShortCurrency units.currency → IsShortCost cost → ArePositions rest → AreSmallLines ls
by_cost m rest head account units cost_kind.Absent i n ls h a c short all =
    posted_small account units None i ls (ok_is ls _ h) a c tt
by_cost m rest head account units (cost_kind.Lot parts) i n ls h a c short all =
    by (is_reduction m rest units) refl
  where
    by : (b : Bool) → is_reduction m rest units ≡ b → AreSmallLines ls
    by true e = reduction_small m rest parts account units i n ls (h.0 e) a c all
    by false e =
        augmented_small head parts parts.amount account units i n ls (h.1 e) a c short.0 short.1
by_cost m rest head account units cost_kind.OutsideProfile i n ls h a c short all = absurd h

by_units : (m : Method) (rest : List Position) (head : Head) (account : List ℕ)
    (units : units_declared.Units) (cost : costs.Cost) (i n : ℕ) (ls : List Line)
    → IsLinedByUnits m rest head account units cost i n (Ok ls) → IsShort account
    → AreShortUnits units → IsShortCost cost → ArePositions rest → AreSmallLines ls
by_units m rest head account Missing cost i n ls h a short lot all =
    subst AreSmallLines (sym (ok_is ls _ h)) (a, tt)
by_units m rest head account (Currency c) cost i n ls h a short lot all =
    subst AreSmallLines (sym (ok_is ls _ h)) ((a, short), tt)
by_units m rest head account (Amount units) cost i n ls h a short lot all =
    by_cost m rest head account units cost i n ls h a short lot all
by_units m rest head account NumberAlone cost i n ls h a short lot all = absurd h

pub lines_small : (s : Setting) (ps : List Posting) (ls : List Line) → AreLined s ps ls
    → AllByRecursion IsSmallPosting ps → AllByRecursion IsSmallPosted s.before → AreSmallLines ls
lines_small s [] ls h all before = subst AreSmallLines (sym h) tt
lines_small s (p ∷ ps) ls h all before =
    subst AreSmallLines (sym h.4)
    (all_joined IsSmallLine h.0 h.1 (lines_small s ps h.0 h.2 all.1 before)
    (by_units (s.method_of p.account) (left p.account s.before h.0) s.head p.account p.units
    p.details.cost (length ps) p.details.line h.1 h.3 all.0.account all.0.units all.0.cost
    (left_small p.account s.before h.0 before)))
