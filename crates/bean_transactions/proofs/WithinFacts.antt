-- What the takes of a transaction come to stays a part of what its accounts held.
use Rattle.std.proofs.Common.{◌≡◌, inl, inr, ◌+◌, ℕ, zero, suc, ℤ, pos, ◌+ℤ◌, neg_ℤ, Bool}
use Rattle.std.proofs.Common.{true, false, cond, List, [], ◌∷◌, ◌++◌, drop, filter, fold, take}
use Rattle.std.proofs.Common.{Option, Some, None, Result, Ok, Err, IfOk, refl, sym, ap, subst}
use Rattle.std.proofs.Common.{◌∙◌, arith}
use Rattle.std.specs.Int.Signed.{lt_z}
use Rattle.std.specs.Str.{bytes_eq}
use Rattle.std.proofs.lemmas.Int.{ints}
use Rattle.std.proofs.lemmas.List.{take-append-drop}
use Rattle.std.proofs.lemmas.Slice.Eq.{bytes_eq-Decides}
use Rattle.bean_base.specs.Decimal.{scaled}
use Rattle.bean_base.specs.declared.amounts.Amount as amounts
use Rattle.bean_base.specs.Counts.{at_8}
use Rattle.bean_holdings.specs.Held.{held, is_on, key_of}
use Rattle.bean_holdings.specs.Holdings.{holding}
use Rattle.bean_holdings.specs.Parts.{IsPart}
use Rattle.bean_holdings.specs.declared.holdings.Holdings.{Holdings}
use Rattle.bean_holdings.specs.declared.posted.Posted.{Posted}
use Rattle.bean_holdings.proofs.TakesFacts.{all_within, fewer_within, more_within, none_within}
use Rattle.bean_lots.specs.Inventory.{IsInventory, added, count_of}
use Rattle.bean_lots.specs.Lot.{same_key}
use Rattle.bean_lots.specs.declared.lot.Key.{Key}
use Rattle.bean_lots.specs.declared.lot.Lot.{Lot}
use Rattle.bean_lots.specs.declared.lot.Position.{Position}
use Rattle.bean_lots.proofs.InventoryFacts.{kept, pointwise_added}
use Rattle.bean_postings.specs.declared.cost.Cost as costs
use Rattle.bean_postings.specs.declared.cost.Cost.TheVariants as cost_kind
use Rattle.bean_postings.specs.declared.cost.LotParts.{LotParts}
use Rattle.bean_postings.specs.declared.posting.Posting.{Posting}
use Rattle.bean_postings.specs.declared.posting.Units as units_declared
use Rattle.bean_postings.specs.declared.posting.Units.TheVariants.{Missing, Currency, Amount}
use Rattle.bean_postings.specs.declared.posting.Units.TheVariants.{NumberAlone}
use Rattle.bean_reductions.specs.After.{after}
use Rattle.bean_reductions.specs.Take.{signed_take, signed_takes, with_sign}
use Rattle.bean_reductions.specs.declared.reduction.Method.{Method}
use Rattle.bean_transactions.specs.Held.{takes_in}
use Rattle.bean_transactions.specs.Lined.{AreTakeLines, IsAugmented, IsLinedByCost, IsLinedByUnits}
use Rattle.bean_transactions.specs.Lined.{IsReducedBy, IsTakeOf, is_reduction}
use Rattle.bean_transactions.specs.Lines.{is_lot}
use Rattle.bean_holdings.specs.Takes.{AreWithin}
use Rattle.bean_transactions.specs.Outcome.{ComesOf, lines_of}
use Rattle.bean_transactions.specs.declared.line.Line.{Line}
use Rattle.bean_transactions.specs.declared.outcome.Outcome.{Outcome}
use Rattle.bean_transactions.specs.declared.setting.Head.{Head}
use Rattle.bean_transactions.specs.declared.stop.LineFault.{LineFault}
use Rattle.refusals.specs.declared.refusal.Refusal.{Refusal}
use Rattle.bean_transactions.proofs.HeldFacts.{takes_append}
use Rattle.bean_transactions.proofs.TakenFacts.{Fits, count_after, inventory_after, key_in}
use Rattle.bean_transactions.proofs.TakenFacts.{reduction_fits, under}

-- ---- what postings come to under a key

abbrev tally : List ℕ → Key → List Posted → ℤ
tally a k [] = pos 0
tally a k (p ∷ ps) =
    cond (bytes_eq p.account a) (cond (same_key k (key_of p)) (at_8 p.units.number) (pos 0)) (pos 0)
    +ℤ tally a k ps

folded : (a : List ℕ) (k : Key) (ps : List Posted) (es : List Position) → IsInventory es
    → count_of (fold (λ es p. added es (key_of p) (at_8 p.units.number)) es (filter (is_on a) ps)) k
    ≡ count_of es k +ℤ tally a k ps
folded a k [] es i = omega (arith, ints)
folded a k (p ∷ ps) es i =
    by (bytes_eq p.account a) (folded a k ps (added es (key_of p) (at_8 p.units.number))
    (kept es (key_of p) (at_8 p.units.number) i)) (folded a k ps es i)
  where
    n : ℤ
    n = at_8 p.units.number

    by : (b : Bool)
        → count_of
        (fold (λ es p. added es (key_of p) (at_8 p.units.number)) (added es (key_of p) n)
        (filter (is_on a) ps)) k
        ≡ count_of (added es (key_of p) n) k +ℤ tally a k ps
        → count_of
        (fold (λ es p. added es (key_of p) (at_8 p.units.number)) es (filter (is_on a) ps)) k
        ≡ count_of es k +ℤ tally a k ps
        → count_of
        (fold (λ es p. added es (key_of p) (at_8 p.units.number)) es
        (cond b (p ∷ filter (is_on a) ps) (filter (is_on a) ps))) k
        ≡ count_of es k
        +ℤ (cond b (cond (same_key k (key_of p)) n (pos 0)) (pos 0) +ℤ tally a k ps)
    by true on off = let own = pointwise_added es (key_of p) k n i in omega (arith, ints, on, own)
    by false on off = omega (arith, ints, off)

counted : (a : List ℕ) (k : Key) (ps : List Posted) → count_of (held a ps) k ≡ tally a k ps
counted a k ps = folded a k ps [] tt ∙ none_before (tally a k ps)
  where
    none_before : (n : ℤ) → pos 0 +ℤ n ≡ n
    none_before n = omega (arith, ints)

tally_append : (a : List ℕ) (k : Key) (ps qs : List Posted)
    → tally a k (ps ++ qs) ≡ tally a k ps +ℤ tally a k qs
tally_append a k [] qs = omega (arith, ints)
tally_append a k (p ∷ ps) qs = let rest = tally_append a k ps qs in omega (arith, ints, rest)

-- ---- what the first takes of a reduction come to

scaled_8 : (c : ℤ) → scaled c 8 8 ≡ c
scaled_8 c = omega (arith, ints)

no_sign : (b : Bool) (want : ℤ) → pos 0 ≡ cond b (with_sign want 0) (pos 0)
no_sign true want = by (lt_z want (pos 0))
  where
    by : (c : Bool) → pos 0 ≡ cond c (pos 0) (pos 0)
    by true = refl
    by false = refl
no_sign false want = refl

sign_sum : (want : ℤ) (t u n : ℕ) → n ≡ t + u
    → with_sign want t +ℤ with_sign want u ≡ with_sign want n
sign_sum want t u n e = by (lt_z want (pos 0))
  where
    by : (b : Bool)
        → cond b (neg_ℤ (pos t)) (pos t) +ℤ cond b (neg_ℤ (pos u)) (pos u)
        ≡ cond b (neg_ℤ (pos n)) (pos n)
    by true = omega (arith, ints, e)
    by false = omega (arith, ints, e)

no_more : (want : ℤ) (u n : ℕ) → n ≡ u → pos 0 +ℤ with_sign want u ≡ with_sign want n
no_more want u n e = by (lt_z want (pos 0))
  where
    by : (b : Bool)
        → pos 0 +ℤ cond b (neg_ℤ (pos u)) (pos u) ≡ cond b (neg_ℤ (pos n)) (pos n)
    by true = omega (arith, ints, e)
    by false = omega (arith, ints, e)

joined : (b d : Bool) (want : ℤ) (t u : ℕ)
    → cond b (cond d (with_sign want t) (pos 0)) (pos 0) +ℤ cond b (with_sign want u) (pos 0)
    ≡ cond b (with_sign want (cond d t 0 + u)) (pos 0)
joined true true want t u = sign_sum want t u (t + u) refl
joined true false want t u = no_more want u (0 + u) (omega arith)
joined false d want t u = refl

first_takes :
    (account currency : List ℕ) (i : ℕ) (want : ℤ) (a : List ℕ) (k : Key) (ts : List (Lot × ℕ))
    (ls : List Line) (n : ℕ)
    → AreTakeLines account currency i (signed_takes want ts) ls
    → tally a k (take n (takes_in ls))
    ≡ cond (bytes_eq account a) (with_sign want (under k currency (take n ts))) (pos 0)
first_takes account currency i want a k [] [] zero h = no_sign (bytes_eq account a) want
first_takes account currency i want a k [] [] (suc n) h = no_sign (bytes_eq account a) want
first_takes account currency i want a k [] (l ∷ ls) n h = absurd h
first_takes account currency i want a k (t ∷ ts) [] n h = absurd h
first_takes account currency i want a k (t ∷ ts) (l ∷ ls) zero h =
    no_sign (bytes_eq account a) want
first_takes account currency i want a k (t ∷ ts) (l ∷ ls) (suc n) h =
    subst
    (λ l. tally a k (take (suc n) (takes_in (l ∷ ls)))
    ≡ cond (bytes_eq account a) (with_sign want (under k currency (take (suc n) (t ∷ ts)))) (pos 0))
    (sym h.0.1) (own h.0.0 h.0.2 (first_takes account currency i want a k ts ls n h.1))
  where
    own : (p : Posted) → IsTakeOf account currency i (signed_take want t) p
        → tally a k (take n (takes_in ls))
        ≡ cond (bytes_eq account a) (with_sign want (under k currency (take n ts))) (pos 0)
        → cond (bytes_eq p.account a)
        (cond (same_key k (key_of p)) (at_8 p.units.number) (pos 0)) (pos 0)
        +ℤ tally a k (take n (takes_in ls))
        ≡ cond (bytes_eq account a)
        (with_sign want
        (cond (same_key k (key_in currency t.0)) t.1 0 + under k currency (take n ts))) (pos 0)
    own p is rest =
        let count : at_8 p.units.number ≡ with_sign want t.1 =
        (λ j. scaled (is.count_is j) (is.places_are j) 8) ∙ scaled_8 (with_sign want t.1) in
        let key : key_of p ≡ key_in currency t.0 =
        λ j. record { currency = is.currency_is j; lot = is.lot_is j } in
        (λ j. cond (bytes_eq (is.account_is j) a)
        (cond (same_key k (key j)) (count j) (pos 0)) (pos 0)
        +ℤ rest j)
        ∙ joined (bytes_eq account a) (same_key k (key_in currency t.0)) want t.1
        (under k currency (take n ts))

-- ---- parts

nothing_more : (h t : ℤ) → IsPart h t → IsPart h (t +ℤ pos 0)
nothing_more h t part = let same : t ≡ t +ℤ pos 0 = omega (arith, ints) in subst (IsPart h) same part

-- one that fits what is left leaves a part
one_part : (want h t left : ℤ) (n : ℕ) → IsPart h t → left ≡ h +ℤ t → Fits want n left
    → IsPart h (t +ℤ with_sign want n)
one_part want h t left n part is (inl none) =
    subst (λ m. IsPart h (t +ℤ m)) (no_sign true want ∙ ap (with_sign want) (sym none))
    (nothing_more h t part)
one_part want h t left n part is (inr fits) = by (lt_z want (pos 0)) refl
  where
    by : (b : Bool) → lt_z want (pos 0) ≡ b → IsPart h (t +ℤ cond b (neg_ℤ (pos n)) (pos n))
    by true below =
        let above : lt_z (pos 0) left ≡ true = grind (arith, ints, fits.1, below) in
        let fit = fits.0 in
        grind (arith, ints, above, fit, is, part)
    by false up =
        let below : lt_z left (pos 0) ≡ true = grind (arith, ints, fits.1, up) in
        let fit = fits.0 in
        grind (arith, ints, below, fit, is, part)

-- ---- what comes of a posting

reduced_within :
    (h : Holdings) (m : Method) (parts : LotParts) (a : List ℕ) (units : amounts.Amount) (i n : ℕ)
    (ps : List Posted) (ls : List Line) → AreWithin h ps → IsInventory (holding h a)
    → IsReducedBy m (after (holding h a) (held a ps)) parts a units i n (Ok ls)
    → AreWithin h (ps ++ takes_in ls)
reduced_within h m parts a units i n ps ls w own r =
    more_within h ps (takes_in ls) w
    (λ j b. record { each = λ k. by j b k (bytes_eq a b) refl })
  where
    want : ℤ
    want = at_8 units.number

    sum : (j : ℕ) (b : List ℕ) (k : Key)
        → count_of (held b (ps ++ take j (takes_in ls))) k
        ≡ count_of (held b ps) k
        +ℤ cond (bytes_eq a b) (with_sign want (under k units.currency (take j r.2.0))) (pos 0)
    sum j b k =
        counted b k (ps ++ take j (takes_in ls))
        ∙ tally_append b k ps (take j (takes_in ls))
        ∙ (λ t. sym (counted b k ps) t
        +ℤ first_takes a units.currency i want b k r.2.0 ls j r.2.2 t)

    by : (j : ℕ) (b : List ℕ) (k : Key) (c : Bool) → bytes_eq a b ≡ c
        → IsPart (count_of (holding h b) k) (count_of (held b (ps ++ take j (takes_in ls))) k)
    by j b k true e =
        let old = count_of (held b ps) k in
        let here : a ≡ b = (bytes_eq-Decides a b).0 e in
        let part = (all_within h ps b w).each k in
        let rest = after (holding h b) (held b ps) in
        let inventory : IsInventory (holding h b) = subst (λ x. IsInventory (holding h x)) here own in
        let left : count_of rest k ≡ count_of (holding h b) k +ℤ old =
        count_after (holding h b) (held b ps) k inventory part in
        let fits : Fits want (under k units.currency (take j r.2.0)) (count_of rest k) =
        subst (λ x. Fits want (under k units.currency (take j r.2.0))
        (count_of (after (holding h x) (held x ps)) k)) here
        (subst
        (λ c. Fits want (under k c (take j r.2.0)) (count_of (after (holding h a) (held a ps)) k))
        r.1.currency_is
        (reduction_fits m r.0 want (after (holding h a) (held a ps)) r.2.0 k j
        (inventory_after (holding h a) (held a ps) own) r.2.1)) in
        subst (IsPart (count_of (holding h b) k))
        (sym (sum j b k
        ∙ ap (λ c. old +ℤ cond c (with_sign want (under k units.currency (take j r.2.0))) (pos 0)) e))
        (one_part want (count_of (holding h b) k) old (count_of rest k)
        (under k units.currency (take j r.2.0)) part left fits)
    by j b k false e =
        let old = count_of (held b ps) k in
        subst (IsPart (count_of (holding h b) k))
        (sym (sum j b k
        ∙ ap (λ c. old +ℤ cond c (with_sign want (under k units.currency (take j r.2.0))) (pos 0)) e))
        (nothing_more (count_of (holding h b) k) old ((all_within h ps b w).each k))

abbrev same : Result (List Line) LineFault → Result (List Line) LineFault → Type 0
same a b = a ≡ b

ok_is : (x y : List Line) → same (Ok x) (Ok y) → x ≡ y
ok_is x y e = cc

differ : (x : List Line) (y : LineFault) → same (Ok x) (Err y) → ⊥
differ x y e = cc

augmented_within :
    (h : Holdings) (head : Head) (parts : LotParts) (cost : Option amounts.Amount) (a : List ℕ)
    (units : amounts.Amount) (i n : ℕ) (ps : List Posted) (ls : List Line) → AreWithin h ps
    → IsAugmented head parts cost a units i n (Ok ls) → AreWithin h (ps ++ takes_in ls)
augmented_within h head parts None a units i n ps ls w r = absurd (differ ls _ r)
augmented_within h head parts (Some cost) a units i n ps ls w r =
    none_within h ps (takes_in ls) (ap takes_in r.3) w

by_cost :
    (h : Holdings) (m : Method) (rest : List Position) (head : Head) (a : List ℕ)
    (units : amounts.Amount) (cost : costs.Cost) (i n : ℕ) (ps : List Posted) (ls : List Line)
    → AreWithin h ps → IsInventory (holding h a)
    → (is_lot cost ≡ true → rest ≡ after (holding h a) (held a ps))
    → IsLinedByCost m rest head a units cost i n (Ok ls) → AreWithin h (ps ++ takes_in ls)
by_cost h m rest head a units cost_kind.Absent i n ps ls w own left r =
    none_within h ps (takes_in ls) (ap takes_in (ok_is ls _ r)) w
by_cost h m rest head a units (cost_kind.Lot parts) i n ps ls w own left r =
    by (is_reduction m rest units) refl
  where
    by : (b : Bool) → is_reduction m rest units ≡ b → AreWithin h (ps ++ takes_in ls)
    by true e =
        reduced_within h m parts a units i n ps ls w own
        (subst (λ rest. IsReducedBy m rest parts a units i n (Ok ls)) (left refl) (r.0 e))
    by false e = augmented_within h head parts parts.amount a units i n ps ls w (r.1 e)
by_cost h m rest head a units cost_kind.OutsideProfile i n ps ls w own left r = absurd r

-- the lines of a posting behind those before it
pub lined_within :
    (h : Holdings) (m : Method) (rest : List Position) (head : Head) (a : List ℕ)
    (units : units_declared.Units) (cost : costs.Cost) (i n : ℕ) (ps : List Posted) (ls : List Line)
    → AreWithin h ps → IsInventory (holding h a)
    → (is_lot cost ≡ true → rest ≡ after (holding h a) (held a ps))
    → IsLinedByUnits m rest head a units cost i n (Ok ls) → AreWithin h (ps ++ takes_in ls)
lined_within h m rest head a Missing cost i n ps ls w own left r =
    none_within h ps (takes_in ls) (ap takes_in (ok_is ls _ r)) w
lined_within h m rest head a (Currency c) cost i n ps ls w own left r =
    none_within h ps (takes_in ls) (ap takes_in (ok_is ls _ r)) w
lined_within h m rest head a (Amount units) cost i n ps ls w own left r =
    by_cost h m rest head a units cost i n ps ls w own left r
lined_within h m rest head a NumberAlone cost i n ps ls w own left r = absurd r

-- the takes among the first of some lines
pub noted_within : (h : Holdings) (ls : List Line) (i : ℕ) → AreWithin h (takes_in ls)
    → AreWithin h (takes_in (take i ls))
noted_within h ls i w =
    fewer_within h (takes_in (take i ls)) (takes_in (drop i ls))
    (subst (AreWithin h)
    (ap takes_in (sym (take-append-drop i ls)) ∙ takes_append (take i ls) (drop i ls)) w)

-- what the program says of a posting
pub within_of :
    (h : Holdings) (m : Method) (rest : List Position) (head : Head) (p : Posting) (i : ℕ)
    (ps : List Posted) (r : Result Outcome (Refusal LineFault))
    → AreWithin h ps → IsInventory (holding h p.account)
    → (is_lot p.details.cost ≡ true → rest ≡ after (holding h p.account) (held p.account ps))
    → ComesOf (IsLinedByUnits m rest head p.account p.units p.details.cost i p.details.line) r
    → IfOk r (λ o. AreWithin h (ps ++ takes_in (lines_of o)))
within_of h m rest head p i ps (Ok o) w own left comes =
    lined_within h m rest head p.account p.units p.details.cost i p.details.line ps (lines_of o) w own
    left comes
within_of h m rest head p i ps (Err e) w own left comes = tt
