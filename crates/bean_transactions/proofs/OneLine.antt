-- One thing comes of a posting.
use Rattle.std.proofs.Common.{◌≡◌, inl, inr, ℕ, ℤ, Bool, true, false, List, [], ◌∷◌}
use Rattle.std.proofs.Common.{Option, Some, None, Result, Ok, Err, refl, sym, ap, ◌∙◌}
use Rattle.std.proofs.Common.{subst}
use Rattle.std.proofs.Common.{arith}
use Rattle.std.specs.Int.RustNames.{unsigned_abs}
use Rattle.bean_base.proofs.NumFacts.{one_num}
use Rattle.bean_base.specs.declared.amounts.Amount as amounts
use Rattle.bean_base.specs.declared.fault.FaultKind.{FaultKind}
use Rattle.bean_postings.specs.declared.cost.Cost as costs
use Rattle.bean_postings.specs.declared.cost.Cost.TheVariants as cost_kind
use Rattle.bean_postings.specs.declared.cost.LotParts.{LotParts}
use Rattle.bean_postings.specs.declared.posting.Units as units_declared
use Rattle.bean_postings.specs.declared.posting.Units.TheVariants.{Missing, Currency, Amount}
use Rattle.bean_postings.specs.declared.posting.Units.TheVariants.{NumberAlone}
use Rattle.bean_lots.proofs.LotFacts.{one_cost}
use Rattle.bean_reductions.proofs.ReductionFacts.{one}
use Rattle.bean_reductions.specs.Candidate.{candidates}
use Rattle.bean_reductions.specs.Take.{signed_takes}
use Rattle.bean_lots.specs.declared.lot.Cost.{Cost}
use Rattle.bean_lots.specs.declared.lot.Lot.{Lot}
use Rattle.bean_lots.specs.declared.lot.Position.{Position}
use Rattle.bean_reductions.specs.declared.reduction.Method.{Method}
use Rattle.bean_reductions.specs.declared.reduction.Selector.{Selector}
use Rattle.bean_base.specs.Counts.{at_8}
use Rattle.bean_transactions.specs.Lined.{AreTakeLines, IsAugmented, IsCostIn, IsInBraces, IsLinedByCost}
use Rattle.bean_transactions.specs.Lined.{IsLinedByUnits, IsLotOf, IsReduced, IsReducedBy, IsSelector}
use Rattle.bean_transactions.specs.Lined.{IsTakeOf, IsWhy, is_reduction}
use Rattle.bean_transactions.specs.declared.line.Line.{Line}
use Rattle.bean_transactions.specs.declared.line.Line.TheVariants as line
use Rattle.bean_holdings.specs.declared.posted.Posted.{Posted}
use Rattle.bean_transactions.specs.declared.setting.Head.{Head}
use Rattle.bean_transactions.specs.declared.stop.LineFault.{LineFault}

pub never_both : (b : Bool) → b ≡ true → b ≡ false → ⊥
never_both true e f = cc
never_both false e f = cc

one_cost_in : (o : Option amounts.Amount) (c d : Option Cost) → IsCostIn o c → IsCostIn o d → c ≡ d
one_cost_in None None None h k = refl
one_cost_in None (Some c) d h k = absurd h
one_cost_in None None (Some d) h k = absurd k
one_cost_in (Some a) None d h k = absurd h
one_cost_in (Some a) (Some c) None h k = absurd k
one_cost_in (Some a) (Some c) (Some d) h k =
    ap Some (one_cost c d (h.1 ∙ sym k.1) (h.0 ∙ sym k.0))

one_selector : (currency : List ℕ) (parts : LotParts) (s t : Selector)
    → IsSelector currency parts s → IsSelector currency parts t → s ≡ t
one_selector currency parts s t h k = λ i. record {
  currency = (h.currency_is ∙ sym k.currency_is) i;
  cost = one_cost_in parts.amount s.cost t.cost h.cost_is k.cost_is i;
  day = (h.day_is ∙ sym k.day_is) i;
  label = (h.label_is ∙ sym k.label_is) i;
}

one_take : (account currency : List ℕ) (i : ℕ) (t : Lot × ℤ × ℕ) (p q : Posted)
    → IsTakeOf account currency i t p → IsTakeOf account currency i t q → p ≡ q
one_take account currency i t p q h k =
    let number =
    one_num p.units.number q.units.number (h.count_is ∙ sym k.count_is)
    (h.places_are ∙ sym k.places_are) in λ j. record {
      account = (h.account_is ∙ sym k.account_is) j;
      units = record { number = number j; currency = (h.currency_is ∙ sym k.currency_is) j };
      lot = (h.lot_is ∙ sym k.lot_is) j;
      written = (h.written_is ∙ sym k.written_is) j;
    }

one_takes : (account currency : List ℕ) (i : ℕ) (ts : List (Lot × ℤ × ℕ)) (ls ms : List Line)
    → AreTakeLines account currency i ts ls → AreTakeLines account currency i ts ms → ls ≡ ms
one_takes account currency i [] [] [] h k = refl
one_takes account currency i [] (l ∷ ls) ms h k = absurd h
one_takes account currency i [] [] (m ∷ ms) h k = absurd k
one_takes account currency i (t ∷ ts) [] ms h k = absurd h
one_takes account currency i (t ∷ ts) (l ∷ ls) [] h k = absurd k
one_takes account currency i (t ∷ ts) (l ∷ ls) (m ∷ ms) h k =
    let head : l ≡ m =
    h.0.1 ∙ ap line.Take (one_take account currency i t h.0.0 k.0.0 h.0.2 k.0.2) ∙ sym k.0.1 in
    let tail = one_takes account currency i ts ls ms h.1 k.1 in λ j. head j ∷ tail j

one_why : (m : Method) (cs : List (Lot × ℕ)) (k l : FaultKind) → IsWhy m cs k → IsWhy m cs l → k ≡ l
one_why m cs k l (inl a) (inl b) = a.1 ∙ sym b.1
one_why m cs k l (inl a) (inr (inl b)) = absurd (omega (arith, a.0, b.1))
one_why m cs k l (inl a) (inr (inr b)) = absurd (omega (arith, a.0, b.0))
one_why m cs k l (inr (inl a)) (inl b) = absurd (omega (arith, a.1, b.0))
one_why m cs k l (inr (inl a)) (inr (inl b)) = a.2 ∙ sym b.2
one_why m cs k l (inr (inl a)) (inr (inr b)) = absurd (omega (arith, a.1, b.1 a.0))
one_why m cs k l (inr (inr a)) (inl b) = absurd (omega (arith, a.0, b.0))
one_why m cs k l (inr (inr a)) (inr (inl b)) = absurd (omega (arith, b.1, a.1 b.0))
one_why m cs k l (inr (inr a)) (inr (inr b)) = a.2 ∙ sym b.2

one_reduced :
    (m : Method) (cs : List (Lot × ℕ)) (account : List ℕ) (units : amounts.Amount) (i n : ℕ)
    (r t : Result (List Line) LineFault)
    → IsReduced m cs account units i n r → IsReduced m cs account units i n t → r ≡ t
one_reduced m cs account units i n (Ok ls) (Ok ms) h k =
    let want = at_8 units.number in
    let same = one m cs (unsigned_abs want) k.0 h.0 k.1 h.1 in
    ap Ok
    (one_takes account units.currency i (signed_takes want h.0) ls ms h.2
    (subst (λ ts. AreTakeLines account units.currency i (signed_takes want ts) ms) same k.2))
one_reduced m cs account units i n (Ok ls) (Err f) h k = absurd (k.0 h.0 h.1)
one_reduced m cs account units i n (Err f) (Ok ls) h k = absurd (h.0 k.0 k.1)
one_reduced m cs account units i n (Err f) (Err g) h k =
    let kind = one_why m cs f.kind g.kind h.1 k.1 in λ j. Err (record {
      kind = kind j;
      line = (h.2 ∙ sym k.2) j;
    })

one_reduced_by :
    (m : Method) (rest : List Position) (parts : LotParts) (account : List ℕ)
    (units : amounts.Amount) (i n : ℕ) (r t : Result (List Line) LineFault)
    → IsReducedBy m rest parts account units i n r
    → IsReducedBy m rest parts account units i n t → r ≡ t
one_reduced_by m rest parts account units i n r t h k =
    let want = at_8 units.number in
    let same = one_selector units.currency parts k.0 h.0 k.1 h.1 in
    one_reduced m (candidates h.0 want rest) account units i n r t h.2
    (subst (λ s. IsReduced m (candidates s want rest) account units i n t) same k.2)

one_lot : (head : Head) (parts : LotParts) (cost : amounts.Amount) (a b : Lot)
    → IsLotOf head parts cost a → IsLotOf head parts cost b → a ≡ b
one_lot head parts cost a b h k =
    let costs = one_cost a.cost b.cost (h.0.1 ∙ sym k.0.1) (h.0.0 ∙ sym k.0.0) in λ j. record {
      cost = costs j;
      day = (h.1 ∙ sym k.1) j;
      label = (h.2 ∙ sym k.2) j;
    }

one_augmented :
    (head : Head) (parts : LotParts) (o : Option amounts.Amount) (account : List ℕ)
    (units : amounts.Amount) (i n : ℕ) (r t : Result (List Line) LineFault)
    → IsAugmented head parts o account units i n r
    → IsAugmented head parts o account units i n t → r ≡ t
one_augmented head parts None account units i n r t h k = h ∙ sym k
one_augmented head parts (Some cost) account units i n (Ok ls) (Ok ms) h k =
    let lots = one_lot head parts cost h.1 k.1 h.2 k.2 in
    ap Ok
    (h.3
    ∙ (λ j. line.Posted record {
      account = account;
      units = units;
      lot = Some (lots j);
      written = i;
    } ∷ [])
    ∙ sym k.3)
one_augmented head parts (Some cost) account units i n (Err f) (Err g) h k = ap Err (h.1 ∙ sym k.1)
one_augmented head parts (Some cost) account units i n (Ok ls) (Err g) h k =
    absurd (never_both _ k.0 h.0)
one_augmented head parts (Some cost) account units i n (Err f) (Ok ms) h k =
    absurd (never_both _ h.0 k.0)

one_in_braces :
    (m : Method) (rest : List Position) (head : Head) (parts : LotParts) (account : List ℕ)
    (units : amounts.Amount) (i n : ℕ) (r t : Result (List Line) LineFault)
    → IsInBraces m rest head parts account units i n r
    → IsInBraces m rest head parts account units i n t → r ≡ t
one_in_braces m rest head parts account units i n r t h k = by (is_reduction m rest units) refl
  where
    by : (b : Bool) → is_reduction m rest units ≡ b → r ≡ t
    by true e = one_reduced_by m rest parts account units i n r t (h.0 e) (k.0 e)
    by false e = one_augmented head parts parts.amount account units i n r t (h.1 e) (k.1 e)

one_by_cost :
    (m : Method) (rest : List Position) (head : Head) (account : List ℕ) (units : amounts.Amount)
    (cost : costs.Cost) (i n : ℕ) (r t : Result (List Line) LineFault)
    → IsLinedByCost m rest head account units cost i n r
    → IsLinedByCost m rest head account units cost i n t → r ≡ t
one_by_cost m rest head account units cost_kind.Absent i n r t h k = h ∙ sym k
one_by_cost m rest head account units (cost_kind.Lot parts) i n r t h k =
    one_in_braces m rest head parts account units i n r t h k
one_by_cost m rest head account units cost_kind.OutsideProfile i n r t h k = absurd h

pub one_outcome :
    (m : Method) (rest : List Position) (head : Head) (account : List ℕ)
    (units : units_declared.Units) (cost : costs.Cost) (i n : ℕ)
    (r t : Result (List Line) LineFault)
    → IsLinedByUnits m rest head account units cost i n r
    → IsLinedByUnits m rest head account units cost i n t → r ≡ t
one_outcome m rest head account Missing cost i n r t h k = h ∙ sym k
one_outcome m rest head account (Currency c) cost i n r t h k = h ∙ sym k
one_outcome m rest head account (Amount units) cost i n r t h k =
    one_by_cost m rest head account units cost i n r t h k
one_outcome m rest head account NumberAlone cost i n r t h k = absurd h
