-- Lots that are held are small where what was booked is, and so is what is taken of them.
use Rattle.std.proofs.Common.{ℕ, ◌-◌, ℤ, pos, ◌+ℤ◌, Bool, true, false, cond, ◌&&◌, List, []}
use Rattle.std.proofs.Common.{◌∷◌, ◌++◌, filter, Option, Some, None, IfSome, sym, subst}
use Rattle.std.specs.Cmp.{IsTotalOrder}
use Rattle.std.specs.Int.RustNames.{unsigned_abs}
use Rattle.std.specs.List.{AllByRecursion}
use Rattle.std.specs.Ordering.{int_eq}
use Rattle.std.proofs.lemmas.Cmp.{back_total, int_cmp_total}
use Rattle.bean_reductions.specs.After.{after}
use Rattle.bean_lots.specs.Inventory.{is_opposite}
use Rattle.bean_reductions.specs.Candidate.{agrees, candidate_of, candidates}
use Rattle.bean_lots.specs.Inventory.{added, count_of, held_as}
use Rattle.bean_lots.specs.Lot.{same_key, same_text}
use Rattle.bean_reductions.specs.Reduction.{IsReduction}
use Rattle.bean_reductions.specs.Take.{day_of, order_of, signed_take, signed_takes}
use Rattle.bean_lots.specs.declared.lot.Key.{Key}
use Rattle.bean_lots.specs.declared.lot.Lot.{Lot}
use Rattle.bean_lots.specs.declared.lot.Position.{Position}
use Rattle.bean_reductions.specs.declared.reduction.Method.{Method}
use Rattle.bean_reductions.specs.declared.reduction.Method.TheVariants as method
use Rattle.bean_reductions.specs.declared.reduction.Selector.{Selector}
use Rattle.bean_reductions.proofs.InTurn.{TakesInTurn}
use Rattle.bean_reductions.proofs.TakeFacts.{to_takes}
use Rattle.bean_base.specs.Counts.{at_8}
use Rattle.bean_holdings.specs.Held.{held, is_on, key_of}
use Rattle.bean_transactions.specs.Held.{left, takes_in}
use Rattle.bean_transactions.specs.declared.line.Line.{Line}
use Rattle.bean_holdings.specs.declared.posted.Posted.{Posted}
use Rattle.bean_replay.specs.Small.{IsSmallLot, IsSmallPosted}
use Rattle.bean_replay.proofs.SmallListFacts.{all_filtered, all_folded, all_mapped}
use Rattle.theory.proofs.AllFacts.{in_order_all}
use Rattle.theory.proofs.AllFacts.{all_joined}

-- what is held, by its lot
abbrev pub IsSmallPosition : Position → Type 0
IsSmallPosition e = IfSome e.key.lot IsSmallLot

abbrev pub ArePositions : List Position → Type 0
ArePositions es = AllByRecursion IsSmallPosition es

as_held : (k : Key) (n : ℤ) → IfSome k.lot IsSmallLot → ArePositions (held_as k n)
as_held k n h = by (int_eq n (pos 0))
  where
    by : (b : Bool) → ArePositions (cond b [] (record { key = k; count = n } ∷ []))
    by true = tt
    by false = (h, tt)

added_small : (es : List Position) (k : Key) (n : ℤ) → ArePositions es → IfSome k.lot IsSmallLot
    → ArePositions (added es k n)
added_small [] k n all h = as_held k n h
added_small (e ∷ es) k n all h = by (same_key k e.key) (added_small es k n all.1 h)
  where
    by : (b : Bool) → ArePositions (added es k n)
        → ArePositions (cond b (held_as e.key (e.count +ℤ n) ++ es) (e ∷ added es k n))
    by true rest =
        all_joined IsSmallPosition (held_as e.key (e.count +ℤ n)) es
        (as_held e.key (e.count +ℤ n) all.0) all.1
    by false rest = (all.0, rest)

held_small : (account : List ℕ) (ps : List Posted) → AllByRecursion IsSmallPosted ps
    → ArePositions (held account ps)
held_small account ps all =
    all_folded IsSmallPosted ArePositions (λ es p. added es (key_of p) (at_8 p.units.number))
    (λ es p h k. added_small es (key_of p) (at_8 p.units.number) h k.lot)
    (filter (is_on account) ps) [] tt (all_filtered IsSmallPosted (is_on account) ps all)

after_small : (es taken : List Position) → ArePositions es → ArePositions (after es taken)
after_small [] taken all = tt
after_small (e ∷ es) taken all =
    all_joined IsSmallPosition (held_as e.key (e.count +ℤ count_of taken e.key)) (after es taken)
    (as_held e.key (e.count +ℤ count_of taken e.key) all.0) (after_small es taken all.1)

-- what a reduction sees
pub left_small : (account : List ℕ) (before : List Posted) (ls : List Line)
    → AllByRecursion IsSmallPosted before → ArePositions (left account before ls)
left_small account before ls all =
    after_small (held account before) (held account (takes_in ls)) (held_small account before all)

-- ---- takes

-- a candidate, or a take of one
abbrev pub IsSmallTake : Lot × ℕ → Type 0
IsSmallTake t = IsSmallLot t.0

-- a take with its sign
abbrev pub IsSmallSigned : Lot × ℤ × ℕ → Type 0
IsSmallSigned t = IsSmallLot t.0

candidate_small : (s : Selector) (want : ℤ) (currency : List ℕ) (lot : Option Lot) (n : ℤ)
    → IfSome lot IsSmallLot → AllByRecursion IsSmallTake (candidate_of s want currency lot n)
candidate_small s want currency None n h = tt
candidate_small s want currency (Some lot) n h =
    by (same_text currency s.currency && agrees s lot && is_opposite want n)
  where
    by : (b : Bool) → AllByRecursion IsSmallTake (cond b ((lot, unsigned_abs n) ∷ []) [])
    by true = (h, tt)
    by false = tt

candidates_small : (s : Selector) (want : ℤ) (es : List Position) → ArePositions es
    → AllByRecursion IsSmallTake (candidates s want es)
candidates_small s want [] all = tt
candidates_small s want (e ∷ es) all =
    all_joined IsSmallTake (candidate_of s want e.key.currency e.key.lot e.count)
    (candidates s want es) (candidate_small s want e.key.currency e.key.lot e.count all.0)
    (candidates_small s want es all.1)

in_turn_small : (q : List (Lot × ℕ)) (want : ℕ) (ts : List (Lot × ℕ)) → TakesInTurn q want ts
    → AllByRecursion IsSmallTake q → AllByRecursion IsSmallTake ts
in_turn_small q want [] h all = tt
in_turn_small [] want (t ∷ ts) h all = absurd h
in_turn_small (c ∷ q) want (t ∷ ts) h all =
    (subst IsSmallLot (sym h.0) all.0, in_turn_small q (want - t.1) ts h.5 all.1)

order_total : (m : Method) → IsTotalOrder (order_of m)
order_total method.Strict = int_cmp_total
order_total method.Fifo = int_cmp_total
order_total method.None = int_cmp_total
order_total method.Lifo = back_total int_cmp_total

-- the takes of a reduction are of small lots where small ones are left
pub reduced_small : (m : Method) (s : Selector) (want : ℤ) (rest : List Position)
    (ts : List (Lot × ℕ)) → IsReduction m (candidates s want rest) (unsigned_abs want) ts
    → ArePositions rest → AllByRecursion IsSmallSigned (signed_takes want ts)
reduced_small m s want rest ts h all =
    all_mapped IsSmallTake IsSmallSigned (signed_take want) (λ t small. small) ts
    (in_turn_small h.queue (unsigned_abs want) ts (to_takes h.queue (unsigned_abs want) ts h.taken)
    (in_order_all IsSmallTake day_of (order_of m) (order_total m) (candidates s want rest) h.queue
    h.arranged (candidates_small s want rest all)))
