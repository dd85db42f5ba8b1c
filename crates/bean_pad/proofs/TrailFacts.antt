-- The second way through a ledger, by its pads and balances.
use Rattle.std.proofs.Common.{◌≡◌, ℕ, ◌<◌, ◌+◌, ℤ, ◌+ℤ◌, ◌-ℤ◌, neg_ℤ, Bool, true, false, cond, List}
use Rattle.std.proofs.Common.{[], ◌∷◌, ◌++◌, length, filter, get_or, take, reverse, suc, zero}
use Rattle.std.proofs.Common.{add-one, sym, ap, ◌∙◌, refl, arith}
use Rattle.std.proofs.Math.IntN.{+ℤ_assoc}
use Rattle.std.proofs.Math.Seq.{take-suc}
use Rattle.std.proofs.lemmas.List.{append-nil, reverse-append}
use Rattle.std.proofs.lemmas.Int.{ints}
use Rattle.bean_base.specs.declared.fault.FaultKind.TheVariants.{BalanceFails}
use Rattle.bean_pad.specs.Checking.{found_at}
use Rattle.bean_base.specs.Counts.{at_8}
use Rattle.bean_pad.specs.Held.{Units, held, is_of, total, units_of, written}
use Rattle.bean_pad.specs.Note.{pads_in}
use Rattle.bean_pad.specs.Standing.{all_inserted, failing, fault_at, inserted, inserted_at}
use Rattle.bean_pad.specs.Standing.{standing, units}
use Rattle.bean_pad.specs.Tolerance.{is_out, tolerance_of}
use Rattle.bean_pad.specs.Trail.{failing_on, padded_on, pads_on, trail_of}
use Rattle.bean_pad.specs.declared.check.Passed.{Passed}
use Rattle.bean_pad.specs.declared.check.Passed.TheVariants as passed
use Rattle.bean_pad.specs.declared.note.Note.{Note}
use Rattle.bean_pad.specs.declared.note.NotedPad.{NotedPad}
use Rattle.bean_pad.specs.declared.note.Outcome.{Outcome}
use Rattle.bean_pad.specs.declared.note.Outcome.TheVariants as outcome
use Rattle.bean_directives.specs.declared.accounts.Pad.{Pad}
use Rattle.bean_pad.specs.declared.step.Step.{Step}
use Rattle.bean_pad.specs.declared.step.Step.TheVariants as step

pub one_more : (ts : List Passed) (i : ℕ) (t : Passed) → i < length ts → t ≡ get_or ts i t
    → reverse (take (i + 1) ts) ≡ t ∷ reverse (take i ts)
one_more ts i t h e =
    let more : take (i + 1) ts ≡ take i ts ++ t ∷ [] =
    rw add-one (take-suc ts i t h ∙ ap (λ q. take i ts ++ q ∷ []) (sym e)) in
    ap reverse more ∙ reverse-append (take i ts) (t ∷ [])

pub failing_more : (ps : List NotedPad) (ts : List Passed) (t : Passed)
    → failing_on ps ts ++ found_at ps ts t ≡ failing_on ps (t ∷ ts)
failing_more ps ts passed.Pad = append-nil (failing_on ps ts)
failing_more ps ts (passed.Balance c) = refl

-- ---- what stands is what is written, and what the paddings add

-- the first units come to so much more than the second
abbrev More : ℤ → List Units → List Units → List ℕ → List ℕ → Type 0
More w xs ys a k = held xs a k ≡ w +ℤ held ys a k

more_unit : (w : ℤ) (u : Units) (xs ys : List Units) (a k : List ℕ) → More w xs ys a k
    → More w (u ∷ xs) (u ∷ ys) a k
more_unit w u xs ys a k h = by (is_of a k u)
  where
    by : (b : Bool)
        → total (cond b (u ∷ filter (is_of a k) xs) (filter (is_of a k) xs))
        ≡ w +ℤ total (cond b (u ∷ filter (is_of a k) ys) (filter (is_of a k) ys))
    by true = ap (λ n. n +ℤ u.count) h ∙ +ℤ_assoc w (held ys a k) u.count
    by false = h

more_inserted : (w : ℤ) (p : Pad) (c : List ℕ) (o : Outcome) (xs ys : List Units) (a k : List ℕ)
    → More w xs ys a k → More w (inserted p c o xs) (inserted p c o ys) a k
more_inserted w p c (outcome.Padding n) xs ys a k h =
    let first = units p.account c (at_8 n) in
    more_unit w (units p.source c (neg_ℤ (at_8 n))) (first ∷ xs) (first ∷ ys) a k
    (more_unit w first xs ys a k h)
more_inserted w p c outcome.AtCost xs ys a k h = h
more_inserted w p c outcome.TooWide xs ys a k h = h

more_all : (w : ℤ) (p : Pad) (ns : List Note) (xs ys : List Units) (a k : List ℕ) → More w xs ys a k
    → More w (all_inserted p ns xs) (all_inserted p ns ys) a k
more_all w p [] xs ys a k h = h
more_all w p (n ∷ ns) xs ys a k h =
    more_all w p ns _ _ a k (more_inserted w p n.currency n.outcome xs ys a k h)

more_at : (w : ℤ) (ps : List NotedPad) (i : ℕ) (xs ys : List Units) (a k : List ℕ)
    → More w xs ys a k → More w (inserted_at ps i xs) (inserted_at ps i ys) a k
more_at w [] i xs ys a k h = h
more_at w (p ∷ ps) zero xs ys a k h = more_all w p.pad p.notes xs ys a k h
more_at w (p ∷ ps) (suc i) xs ys a k h = more_at w ps i xs ys a k h

more_written : (u : Units) (xs ws ps : List Units) (a k : List ℕ) → More (held ws a k) xs ps a k
    → More (held (u ∷ ws) a k) (u ∷ xs) ps a k
more_written u xs ws ps a k h = by (is_of a k u)
  where
    turned : (x w p n : ℤ) → x ≡ w +ℤ p → x +ℤ n ≡ (w +ℤ n) +ℤ p
    turned x w p n h = omega (arith, ints)

    by : (b : Bool)
        → total (cond b (u ∷ filter (is_of a k) xs) (filter (is_of a k) xs))
        ≡ total (cond b (u ∷ filter (is_of a k) ws) (filter (is_of a k) ws)) +ℤ held ps a k
    by true = turned (held xs a k) (held ws a k) (held ps a k) u.count h
    by false = h

pads_on_trail : (past : List Step) → pads_on (trail_of past) ≡ pads_in past
pads_on_trail [] = refl
pads_on_trail (step.Posting p u ∷ past) = pads_on_trail past
pads_on_trail (step.Pad p day at ∷ past) = ap suc (pads_on_trail past)
pads_on_trail (step.Balance b at cost ∷ past) = pads_on_trail past

pub standing_is : (ps : List NotedPad) (past : List Step) (a k : List ℕ)
    → More (held (written past) a k) (standing ps past) (padded_on ps (trail_of past)) a k
standing_is ps [] a k = refl
standing_is ps (step.Posting p u ∷ past) a k =
    more_written (units_of p u) (standing ps past) (written past) (padded_on ps (trail_of past)) a k
    (standing_is ps past a k)
standing_is ps (step.Pad p day at ∷ past) a k =
    more_at (held (written past) a k) ps (pads_in past) (standing ps past)
    (padded_on ps (trail_of past)) a k (standing_is ps past a k)
    ∙ ap (λ i. held (written past) a k
    +ℤ held (inserted_at ps i (padded_on ps (trail_of past))) a k) (sym (pads_on_trail past))
standing_is ps (step.Balance b at cost ∷ past) a k = standing_is ps past a k

left : (n s w p : ℤ) → s ≡ w +ℤ p → n -ℤ s ≡ n -ℤ w -ℤ p
left n s w p h = omega (arith, ints)

pub failing_is : (ps : List NotedPad) (past : List Step)
    → failing ps past ≡ failing_on ps (trail_of past)
failing_is ps [] = refl
failing_is ps (step.Posting p u ∷ past) = failing_is ps past
failing_is ps (step.Pad p day at ∷ past) = failing_is ps past
failing_is ps (step.Balance b at cost ∷ past) =
    λ i. failing_is ps past i
    ++ cond (is_out (off i) (tolerance_of b)) (fault_at BalanceFails at ∷ []) []
  where
    off : at_8 b.number -ℤ held (standing ps past) b.account b.currency
        ≡ at_8 b.number -ℤ held (written past) b.account b.currency
        -ℤ held (padded_on ps (trail_of past)) b.account b.currency
    off = left (at_8 b.number) (held (standing ps past) b.account b.currency)
        (held (written past) b.account b.currency)
        (held (padded_on ps (trail_of past)) b.account b.currency)
        (standing_is ps past b.account b.currency)
