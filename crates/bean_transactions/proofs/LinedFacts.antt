-- The lines of a transaction, one posting after the other.
use Rattle.std.proofs.Common.{◌≡◌, ℕ, suc, zero, ◌+◌, ◌<◌, Bool, true, false, ◌||◌, ◌&&◌, List, [], ◌∷◌}
use Rattle.std.proofs.Common.{◌++◌}
use Rattle.std.proofs.Common.{length, get_or, take, drop, reverse, Result, Ok, Err, refl, sym, ap}
use Rattle.std.proofs.Common.{◌∙◌}
use Rattle.std.proofs.Common.{subst, add-one, arith}
use Rattle.std.specs.List.{list_any}
use Rattle.std.proofs.Math.Seq.{take-suc, drop-cons}
use Rattle.std.proofs.lemmas.List.{length-reverse, length-take-le, reverse-append}
use Rattle.std.proofs.lemmas.List.{take-append-drop}
use Rattle.bean_base.specs.declared.amounts.Amount.{Amount}
use Rattle.bean_postings.specs.declared.cost.Cost.{Cost}
use Rattle.bean_postings.specs.declared.cost.Cost.TheVariants as cost_kind
use Rattle.bean_postings.specs.declared.cost.LotParts.{LotParts}
use Rattle.bean_postings.specs.declared.posting.Posting.{Posting}
use Rattle.bean_postings.specs.declared.posting.Units.{Units}
use Rattle.bean_postings.specs.declared.posting.Units.TheVariants as units_kind
use Rattle.bean_reductions.specs.After.{after}
use Rattle.bean_lots.specs.declared.lot.Position.{Position}
use Rattle.bean_reductions.specs.declared.reduction.Method.{Method}
use Rattle.bean_transactions.specs.declared.stop.LineFault.{LineFault}
use Rattle.bean_base.specs.Counts.{at_8}
use Rattle.bean_holdings.specs.Held.{held, lots_in}
use Rattle.bean_holdings.proofs.LotFacts.{candidates_among_lots, lots_after, opposite_among_lots}
use Rattle.bean_transactions.specs.Held.{left, takes_in}
use Rattle.bean_holdings.specs.Holdings.{holding}
use Rattle.bean_transactions.specs.Lined.{AreLined, IsFirstFault, IsInBraces, IsLinedByCost}
use Rattle.bean_transactions.specs.Lined.{IsLinedByUnits, IsNext, IsReduced, Setting, is_reduction}
use Rattle.bean_transactions.specs.Lined.{reduces}
use Rattle.bean_transactions.specs.Lines.{IsSettled}
use Rattle.bean_accounts.specs.Methods.{method_in}
use Rattle.bean_transactions.specs.Outcome.{ComesOf, StopsAt}
use Rattle.bean_holdings.specs.declared.holdings.Holdings.{Holdings}
use Rattle.bean_transactions.specs.declared.line.Line.{Line}
use Rattle.bean_accounts.specs.declared.methods.Methods.{Methods}
use Rattle.bean_transactions.specs.declared.outcome.Outcome.{Outcome}
use Rattle.bean_transactions.specs.declared.setting.Head.{Head}
use Rattle.refusals.specs.declared.refusal.Refusal.{Refusal}
use Rattle.refusals.specs.declared.refusal.Refusal.TheVariants as stop
use Rattle.bean_transactions.proofs.OutcomeFacts.{comes_more}

-- ---- what comes of a posting is the same whether units without a lot are held or not

module _ (m : Method) (rest : List Position) (head : Head) (account : List ℕ) (i n : ℕ)
    (r : Result (List Line) LineFault) where
  by_lots_in_braces : (parts : LotParts) (units : Amount)
      → IsInBraces m (lots_in rest) head parts account units i n r
      → IsInBraces m rest head parts account units i n r
  by_lots_in_braces parts units (reduced, augmented) =
      let want = at_8 units.number in
      let same : is_reduction m (lots_in rest) units ≡ is_reduction m rest units =
      ap (λ b. reduces m && b) (opposite_among_lots units.currency want rest) in (
        λ is.
            let by = reduced (same ∙ is) in (
              by.0,
              by.1,
              subst (λ cs. IsReduced m cs account units i n r) (candidates_among_lots by.0 want rest) by.2,
            ),
        λ is. augmented (same ∙ is),
      )

  by_lots_at : (units : Amount) (cost : Cost)
      → IsLinedByCost m (lots_in rest) head account units cost i n r
      → IsLinedByCost m rest head account units cost i n r
  by_lots_at units cost_kind.Absent h = h
  by_lots_at units (cost_kind.Lot parts) h = by_lots_in_braces parts units h
  by_lots_at units cost_kind.OutsideProfile h = h

  by_lots : (units : Units) (cost : Cost)
      → IsLinedByUnits m (lots_in rest) head account units cost i n r
      → IsLinedByUnits m rest head account units cost i n r
  by_lots units_kind.Missing cost h = h
  by_lots (units_kind.Currency c) cost h = h
  by_lots (units_kind.Amount units) cost h = by_lots_at units cost h
  by_lots units_kind.NumberAlone cost h = h

-- what the program says of a posting, said of the setting
pub next_of :
    (s : Setting) (h : Holdings) (ms : Methods) (head : Head) (ls : List Line) (m : Method)
    (before taken : List Position) (i : ℕ) (p : Posting) (r : Result Outcome (Refusal LineFault))
    → IsSettled s h ms head → m ≡ method_in ms p.account → before ≡ holding h p.account
    → taken ≡ held p.account (takes_in ls)
    → ComesOf (IsLinedByUnits m (after before taken) head p.account p.units p.details.cost i
    p.details.line) r
    → ComesOf (IsNext s ls i p) r
next_of s h ms head ls m before taken i p r is e f g comes =
    let a = p.account in
    let rest = left a s.before ls in
    let lots_are : after before taken ≡ lots_in rest =
    ap (λ es. after es taken) (f ∙ is.held.each a)
    ∙ ap (after (lots_in (held a s.before))) g
    ∙ lots_after (held a s.before) (held a (takes_in ls)) in
    let cost = p.details.cost in
    let line = p.details.line in
    subst (λ m. ComesOf (IsLinedByUnits m rest s.head a p.units cost i line) r)
    (e ∙ sym (is.methods a))
    (comes_more (IsLinedByUnits m (lots_in rest) s.head a p.units cost i line)
    (IsLinedByUnits m rest s.head a p.units cost i line) r
    (λ q. by_lots m rest s.head a i line q p.units cost)
    (subst (λ es. ComesOf (IsLinedByUnits m es s.head a p.units cost i line) r) lots_are
    (subst (λ hd. ComesOf (IsLinedByUnits m (after before taken) hd a p.units cost i line) r)
    (sym is.head_is) comes)))

pub each_inside : {X : Type 0} (f : X → Bool) (xs : List X) (i : ℕ) (x : X) → i < length xs
    → x ≡ get_or xs i x → list_any f xs ≡ false → f x ≡ false
each_inside f [] i x h e none = absurd (omega (arith, h))
each_inside f (y ∷ ys) zero x h e none = ap f e ∙ first (f y) (list_any f ys) none
  where
    first : (a b : Bool) → (a || b) ≡ false → a ≡ false
    first true b h = h
    first false b h = refl
each_inside f (y ∷ ys) (suc i) x h e none =
    each_inside f ys i x (omega (arith, h)) e (later (f y) (list_any f ys) none)
  where
    later : (a b : Bool) → (a || b) ≡ false → b ≡ false
    later true b h = cc
    later false b h = h

pub latest : {X : Type 0} (xs : List X) (i : ℕ) (x : X) → i < length xs → x ≡ get_or xs i x
    → reverse (take (i + 1) xs) ≡ x ∷ reverse (take i xs)
latest xs i x h e =
    let more : take (i + 1) xs ≡ take i xs ++ x ∷ [] =
    rw add-one (take-suc xs i x h ∙ ap (λ q. take i xs ++ q ∷ []) (sym e)) in
    ap reverse more ∙ reverse-append (take i xs) (x ∷ [])

pub reverse_twice : {X : Type 0} (xs : List X) → reverse (reverse xs) ≡ xs
reverse_twice [] = refl
reverse_twice (x ∷ xs) =
    ap reverse (reverse-append (x ∷ []) xs) ∙ reverse-append (reverse xs) (x ∷ [])
    ∙ ap (λ l. x ∷ l) (reverse_twice xs)

pub before_length : {X : Type 0} (xs : List X) (i : ℕ) → i < length xs
    → length (reverse (take i xs)) ≡ i
before_length xs i h = length-reverse (take i xs) ∙ length-take-le i xs (omega (arith, h))

pub split_at : {X : Type 0} (xs : List X) (i : ℕ) (x : X) → i < length xs → x ≡ get_or xs i x
    → xs ≡ reverse (reverse (take i xs)) ++ x ∷ drop (suc i) xs
split_at xs i x h e =
    sym (take-append-drop i xs)
    ∙ ap (λ l. take i xs ++ l)
    (drop-cons xs i x h ∙ ap (λ q. q ∷ drop (suc i) xs) (sym e))
    ∙ ap (λ l. l ++ x ∷ drop (suc i) xs) (sym (reverse_twice (take i xs)))

-- the lines with those of one more posting
pub one_more_lined :
    (s : Setting) (ps : List Posting) (i : ℕ) (p : Posting) (earlier ls : List Line)
    → i < length ps → p ≡ get_or ps i p → AreLined s (reverse (take i ps)) earlier
    → (new : List Line) × IsNext s earlier i p (Ok new) × (ls ≡ earlier ++ new)
    → AreLined s (reverse (take (i + 1) ps)) ls
one_more_lined s ps i p earlier ls h e lined next =
    subst (λ qs. AreLined s qs ls) (sym (latest ps i p h e)) (
      earlier,
      next.0,
      lined,
      subst (λ n. IsNext s earlier n p (Ok next.0)) (sym (before_length ps i h)) next.1,
      next.2,
    )

pub first_fault :
    (s : Setting) (ps : List Posting) (i : ℕ) (p : Posting) (lines : List Line) (e : Refusal LineFault)
    → i < length ps → p ≡ get_or ps i p → AreLined s (reverse (take i ps)) lines
    → StopsAt (λ f. IsNext s lines i p (Err f)) e → StopsAt (IsFirstFault s ps) e
first_fault s ps i p lines (stop.Refused f) h e lined fault = record {
  earlier = reverse (take i ps);
  at = p;
  later = drop (suc i) ps;
  split = split_at ps i p h e;
  lines = lines;
  lined = lined;
  fault = subst (λ n. IsNext s lines n p (Err f)) (sym (before_length ps i h)) fault;
}
first_fault s ps i p lines stop.OutOfMemory h e lined fault = tt
