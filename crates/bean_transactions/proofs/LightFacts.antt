-- What a kept transaction is booked as is light, and so in range where it isn't very long.
use Rattle.std.proofs.Common.{◌≡◌, ℕ, suc, zero, ◌+◌, ◌*◌, ◌^◌, ◌<◌, ◌≤◌, ◌==◌, ℤ, ◌+ℤ◌, Bool}
use Rattle.std.proofs.Common.{true, false, cond, not, ◌&&◌, ◌||◌, List, [], ◌∷◌, ◌++◌, append_assoc}
use Rattle.std.proofs.Common.{length, map, filter, take, reverse, slice_get, Option, Some}
use Rattle.std.proofs.Common.{None}
use Rattle.std.proofs.Common.{Result, Ok, Err, refl, sym, ap, ◌∙◌, subst, arith}
use Rattle.std.proofs.Math.Seq.{get_or-append_seam}
use Rattle.std.proofs.lemmas.Int.{ints}
use Rattle.std.proofs.lemmas.List.{append-nil, length-append, length-reverse, reverse-append}
use Rattle.std.proofs.lemmas.Option.{slice_get-get_or}
use Rattle.std.specs.Int.RustNames.{unsigned_abs}
use Rattle.std.specs.List.{AllByRecursion}
use Rattle.std.specs.Str.{bytes_eq}
use Rattle.bean_base.specs.declared.amounts.Amount as amounts
use Rattle.bean_postings.specs.Posting.{has_number, is_left_out, is_number_alone}
use Rattle.bean_postings.specs.Posting.{is_outside_profile}
use Rattle.bean_postings.specs.Posting.{is_written}
use Rattle.bean_postings.specs.declared.cost.Cost as costs
use Rattle.bean_postings.specs.declared.cost.Cost.TheVariants as cost_kind
use Rattle.bean_postings.specs.declared.posting.Posting.{Posting}
use Rattle.bean_postings.specs.declared.posting.Units as units_declared
use Rattle.bean_postings.specs.declared.posting.Units.TheVariants.{Missing, Currency, Amount}
use Rattle.bean_postings.specs.declared.posting.Units.TheVariants.{NumberAlone}
use Rattle.bean_postings.specs.declared.price.Price.{Price}
use Rattle.bean_postings.specs.declared.price.Price.TheVariants as price_kind
use Rattle.bean_interp.proofs.DueFacts.{number_lt}
use Rattle.bean_interp.specs.Residual.{AreInRange, IsLight, sum_in, weighed}
use Rattle.bean_interp.specs.Weight.{IsOfUnits, count_of, currency_of, weight_of}
use Rattle.bean_interp.specs.declared.fill.Fill.{Fill}
use Rattle.bean_interp.specs.declared.leg.Leg.{Leg}
use Rattle.bean_interp.specs.declared.leg.Leg.TheVariants as leg
use Rattle.bean_interp.specs.declared.leg.Whole.{Whole}
use Rattle.bean_reductions.specs.Take.{signed_takes}
use Rattle.bean_lots.specs.declared.lot.Lot.{Lot}
use Rattle.bean_lots.specs.declared.lot.Position.{Position}
use Rattle.bean_reductions.specs.declared.reduction.Method.{Method}
use Rattle.bean_base.specs.Counts.{at_8}
use Rattle.bean_transactions.specs.Held.{left}
use Rattle.bean_transactions.specs.Lined.{AreLined, AreTakeLines, IsAugmented, IsLinedByCost}
use Rattle.bean_transactions.specs.Lined.{IsLinedByUnits}
use Rattle.bean_transactions.specs.Lined.{Setting, is_reduction}
use Rattle.bean_transactions.specs.Tried.{Tries, booked_leg, booked_legs, filled_at, filled_in}
use Rattle.bean_transactions.specs.Tried.{is_outside, leg_of, legs_of, posts_at, posts_from, whole_at}
use Rattle.bean_transactions.specs.Tried.{whole_of}
use Rattle.bean_transactions.specs.Tried.{number_in}
use Rattle.bean_transactions.specs.declared.line.Line.{Line}
use Rattle.bean_transactions.specs.declared.line.Line.TheVariants as line
use Rattle.bean_holdings.specs.declared.posted.Posted.{Posted}
use Rattle.bean_transactions.specs.declared.setting.Head.{Head}
use Rattle.bean_transactions.specs.declared.stop.LineFault.{LineFault}
use Rattle.bean_transactions.proofs.LinedFacts.{each_inside, reverse_twice}

-- ---- few light legs are in range

one_weight : (b : Bool) (n : ℕ) (w s : ℤ) → unsigned_abs w < 10 ^ 28
    → unsigned_abs s ≤ n * 10 ^ 28 → unsigned_abs (cond b (w +ℤ s) s) ≤ suc n * 10 ^ 28
one_weight true n w s h k = omega (arith, ints, h, k)
one_weight false n w s h k = omega (arith, k)

light_sum : (legs : List Leg) (c : List ℕ) → AllByRecursion IsLight legs
    → unsigned_abs (sum_in (weighed legs) c) ≤ length legs * 10 ^ 28
light_sum [] c h = omega (arith, ints)
light_sum (leg.Whole w ∷ legs) c h =
    one_weight (bytes_eq (currency_of w.units w.worth) c) (length legs) (weight_of w)
    (sum_in (weighed legs) c) h.0 (light_sum legs c h.1)
light_sum (leg.MissingNumber d ∷ legs) c h = let rest = light_sum legs c h.1 in omega (arith, rest)
light_sum (leg.MissingAmount ∷ legs) c h = let rest = light_sum legs c h.1 in omega (arith, rest)

first_light : (k : ℕ) (legs : List Leg) → AllByRecursion IsLight legs
    → AllByRecursion IsLight (take k legs)
first_light zero legs h = tt
first_light (suc k) [] h = tt
first_light (suc k) (l ∷ legs) h = (h.0, first_light k legs h.1)

first_few : (k : ℕ) (legs : List Leg) → length (take k legs) ≤ length legs
first_few zero legs = omega arith
first_few (suc k) [] = omega arith
first_few (suc k) (l ∷ legs) = let rest = first_few k legs in omega (arith, rest)

pub in_range : (legs : List Leg) → AllByRecursion IsLight legs → length legs ≤ 10 ^ 9
    → AreInRange legs
in_range legs h few = record {
  light = h;
  sums = λ k c.
      let bound = light_sum (take k legs) c (first_light k legs h) in
      let fewer = first_few k legs in omega (arith, bound, fewer, few);
}

pub light_units : (units : amounts.Amount) (w : Whole) → IsOfUnits units w → IsLight (leg.Whole w)
light_units units w is =
    subst (λ z. unsigned_abs z < 10 ^ 28)
    (sym (ap (λ u. count_of u w.worth) is.units_are ∙ ap (count_of units) is.worth_is))
    (number_lt units.number)

-- ---- where something lacks, no price is written

abbrev IsGap : List Posting → ℕ → Type 0
IsGap ps i = (p : Posting) × (slice_get ps i ≡ Some p) × (p.details.price ≡ price_kind.Absent)

abbrev IsGapIn : List Posting → Line → Type 0
IsGapIn ps (line.Posted p) = Unit {0}
IsGapIn ps (line.Take p) = Unit {0}
IsGapIn ps (line.MissingNumber a c i) = IsGap ps i
IsGapIn ps (line.MissingAmount a i) = IsGap ps i

absent : (c : costs.Cost) (p : Price) → is_written c p ≡ false → p ≡ price_kind.Absent
absent c price_kind.Absent e = refl
absent cost_kind.Absent (price_kind.PerUnit a) e = cc
absent (cost_kind.Lot l) (price_kind.PerUnit a) e = cc
absent cost_kind.OutsideProfile (price_kind.PerUnit a) e = cc
absent cost_kind.Absent (price_kind.Total a) e = cc
absent (cost_kind.Lot l) (price_kind.Total a) e = cc
absent cost_kind.OutsideProfile (price_kind.Total a) e = cc
absent cost_kind.Absent price_kind.OutsideProfile e = cc
absent (cost_kind.Lot l) price_kind.OutsideProfile e = cc
absent cost_kind.OutsideProfile price_kind.OutsideProfile e = cc

last_of_three : (a b c : Bool) → (a || (b || c)) ≡ false → c ≡ false
last_of_three true b c e = cc
last_of_three false true c e = cc
last_of_three false false c e = e

no_price : (u : units_declared.Units) (c : costs.Cost) (p : Price) → has_number u ≡ false
    → (is_number_alone u || (is_left_out c p || (not (has_number u) && is_written c p))) ≡ false
    → p ≡ price_kind.Absent
no_price u c p none e =
    absent c p
    (sym (ap (λ b. not b && is_written c p) none)
    ∙ last_of_three (is_number_alone u) (is_left_out c p) (not (has_number u) && is_written c p) e)

gap : (ps : List Posting) (qs rest : List Posting) (p : Posting) → ps ≡ reverse qs ++ p ∷ rest
    → is_outside ps ≡ false → has_number p.units ≡ false → IsGap ps (length qs)
gap ps qs rest p e inside none =
    let at : slice_get (reverse qs ++ p ∷ rest) (length (reverse qs)) ≡ Some p =
    slice_get-get_or (reverse qs ++ p ∷ rest) (length (reverse qs)) p
    (omega (arith, length-append (reverse qs) (p ∷ rest)))
    ∙ ap Some (get_or-append_seam (reverse qs) p rest p) in
    let there : slice_get ps (length qs) ≡ Some p =
    ap (λ l. slice_get l (length qs)) e
    ∙ ap (slice_get (reverse qs ++ p ∷ rest)) (sym (length-reverse qs)) ∙ at in
    let within : length (reverse qs) < length (reverse qs ++ p ∷ rest) =
    omega (arith, length-append (reverse qs) (p ∷ rest)) in
    let own =
    each_inside is_outside_profile (reverse qs ++ p ∷ rest) (length (reverse qs)) p within
    (sym (get_or-append_seam (reverse qs) p rest p)) (sym (ap is_outside e) ∙ inside) in
    (p, there, no_price p.units p.details.cost p.details.price none own)

takes_have_none : (ps : List Posting) (account currency : List ℕ) (i : ℕ)
    (ts : List (Lot × ℤ × ℕ)) (ls : List Line) → AreTakeLines account currency i ts ls
    → AllByRecursion (IsGapIn ps) ls
takes_have_none ps account currency i [] [] h = tt
takes_have_none ps account currency i [] (l ∷ ls) h = absurd h
takes_have_none ps account currency i (t ∷ ts) [] h = absurd h
takes_have_none ps account currency i (t ∷ ts) (l ∷ ls) h =
    (subst (IsGapIn ps) (sym h.0.1) tt, takes_have_none ps account currency i ts ls h.1)

posted_has_none : (ps : List Posting) (p : Posted) (ls : List Line) → ls ≡ line.Posted p ∷ []
    → AllByRecursion (IsGapIn ps) ls
posted_has_none ps p ls e = subst (AllByRecursion (IsGapIn ps)) (sym e) (tt, tt)

abbrev same : Result (List Line) LineFault → Result (List Line) LineFault → Type 0
same a b = a ≡ b

ok_is : (x y : List Line) → same (Ok x) (Ok y) → x ≡ y
ok_is x y e = cc

differ : (x : List Line) (y : LineFault) → same (Ok x) (Err y) → ⊥
differ x y e = cc

units_have_none : (ps : List Posting) (m : Method) (rest : List Position) (head : Head)
    (account : List ℕ) (units : amounts.Amount) (cost : costs.Cost) (i n : ℕ) (ls : List Line)
    → IsLinedByCost m rest head account units cost i n (Ok ls) → AllByRecursion (IsGapIn ps) ls
units_have_none ps m rest head account units cost_kind.Absent i n ls h =
    posted_has_none ps _ ls (ok_is ls _ h)
units_have_none ps m rest head account units (cost_kind.Lot parts) i n ls h =
    by (is_reduction m rest units) refl
  where
    added : (o : Option amounts.Amount) → IsAugmented head parts o account units i n (Ok ls)
        → AllByRecursion (IsGapIn ps) ls
    added None h = absurd (differ ls _ h)
    added (Some cost) h = posted_has_none ps _ ls h.3

    by : (b : Bool) → is_reduction m rest units ≡ b → AllByRecursion (IsGapIn ps) ls
    by true e =
        takes_have_none ps account units.currency i (signed_takes (at_8 units.number) (h.0 e).2.0)
        ls (h.0 e).2.2
    by false e = added parts.amount (h.1 e)
units_have_none ps m rest head account units cost_kind.OutsideProfile i n ls h = absurd h

next_has_none : (ps : List Posting) (s : Setting) (earlier : List Line) (qs rest : List Posting)
    (p : Posting) (u : units_declared.Units) (new : List Line)
    → (has_number u ≡ false → IsGap ps (length qs))
    → IsLinedByUnits (s.method_of p.account) (left p.account s.before earlier) s.head p.account u
    p.details.cost (length qs) p.details.line (Ok new) → AllByRecursion (IsGapIn ps) new
next_has_none ps s earlier qs rest p Missing new gap h =
    subst (AllByRecursion (IsGapIn ps)) (sym (ok_is new _ h)) (gap refl, tt)
next_has_none ps s earlier qs rest p (Currency c) new gap h =
    subst (AllByRecursion (IsGapIn ps)) (sym (ok_is new _ h)) (gap refl, tt)
next_has_none ps s earlier qs rest p (Amount units) new gap h =
    units_have_none ps (s.method_of p.account) (left p.account s.before earlier) s.head p.account
    units p.details.cost (length qs) p.details.line new h
next_has_none ps s earlier qs rest p NumberAlone new gap h = absurd h

both : (ps : List Posting) (ls ms : List Line) → AllByRecursion (IsGapIn ps) ls
    → AllByRecursion (IsGapIn ps) ms → AllByRecursion (IsGapIn ps) (ls ++ ms)
both ps [] ms h k = k
both ps (l ∷ ls) ms h k = (h.0, both ps ls ms h.1 k)

lines_have_none : (ps : List Posting) (s : Setting) (qs rest : List Posting) (ls : List Line)
    → ps ≡ reverse qs ++ rest → is_outside ps ≡ false → AreLined s qs ls
    → AllByRecursion (IsGapIn ps) ls
lines_have_none ps s [] rest ls e inside h = subst (AllByRecursion (IsGapIn ps)) (sym h) tt
lines_have_none ps s (p ∷ qs) rest ls e inside h =
    let split : ps ≡ reverse qs ++ p ∷ rest =
    e ∙ ap (λ l. l ++ rest) (reverse-append (p ∷ []) qs)
    ∙ append_assoc (reverse qs) (p ∷ []) rest in
    let earlier = lines_have_none ps s qs (p ∷ rest) h.0 split inside h.2 in
    let new =
    next_has_none ps s h.0 qs rest p p.units h.1 (gap ps qs rest p split inside) h.3 in
    subst (AllByRecursion (IsGapIn ps)) (sym h.4) (both ps h.0 h.1 earlier new)

-- ---- the booked postings are light

light_fill : (ps : List Posting) (i : ℕ) (account : List ℕ) (f : Fill) → IsGap ps i
    → IsLight (booked_leg ps (filled_in account i f))
light_fill ps i account f g =
    let p = filled_in account i f in
    subst (λ o. IsLight (leg.Whole (whole_at o p))) (sym g.1)
    (subst (λ r. IsLight (leg.Whole (whole_of (number_in g.0.units) r p))) (sym g.2)
    (number_lt f.amount.number))

light_filled : (ps : List Posting) (k i : ℕ) (account : List ℕ) (fills : List Fill) → IsGap ps i
    → AllByRecursion IsLight (map (booked_leg ps) (filled_at fills k account i))
light_filled ps k i account [] g = tt
light_filled ps k i account (f ∷ fills) g =
    by (f.leg == k) (light_filled ps k i account fills g)
  where
    rest : List Fill
    rest = filter (λ f. f.leg == k) fills

    by : (b : Bool) → AllByRecursion IsLight (map (booked_leg ps) (filled_at fills k account i))
        → AllByRecursion IsLight
        (map (booked_leg ps) (map (filled_in account i) (cond b (f ∷ rest) rest)))
    by true h = (light_fill ps i account f g, h)
    by false h = h

both_light : (ps : List Posting) (xs ys : List Posted)
    → AllByRecursion IsLight (map (booked_leg ps) xs)
    → AllByRecursion IsLight (map (booked_leg ps) ys)
    → AllByRecursion IsLight (map (booked_leg ps) (xs ++ ys))
both_light ps [] ys h k = k
both_light ps (x ∷ xs) ys h k = (h.0, both_light ps xs ys h.1 k)

light_at : (ps : List Posting) (fills : List Fill) (k : ℕ) (l : Line) → IsLight (leg_of ps l)
    → IsGapIn ps l → AllByRecursion IsLight (map (booked_leg ps) (posts_at fills k l))
light_at ps fills k (line.Posted p) h g = (h, tt)
light_at ps fills k (line.Take p) h g = (h, tt)
light_at ps fills k (line.MissingNumber a c i) h g = light_filled ps k i a fills g
light_at ps fills k (line.MissingAmount a i) h g = light_filled ps k i a fills g

light_from : (ps : List Posting) (fills : List Fill) (k : ℕ) (ls : List Line)
    → AllByRecursion IsLight (legs_of ps ls) → AllByRecursion (IsGapIn ps) ls
    → AllByRecursion IsLight (booked_legs ps (posts_from fills k ls))
light_from ps fills k [] h g = tt
light_from ps fills k (l ∷ ls) h g =
    both_light ps (posts_at fills k l) (posts_from fills (k + 1) ls)
    (light_at ps fills k l h.0 g.0) (light_from ps fills (k + 1) ls h.1 g.1)

pub kept_light : (s : Setting) (ps : List Posting) (posted : List Posted) → Tries s ps (Ok posted)
    → AllByRecursion IsLight (booked_legs ps posted)
kept_light s ps posted h =
    let lines = h.1.lines in
    let done = h.1.completed in
    let whole : ps ≡ reverse (reverse ps) ++ [] =
    sym (append-nil (reverse (reverse ps)) ∙ reverse_twice ps) in
    let gaps = lines_have_none ps s (reverse ps) [] lines whole h.0 h.1.lined in
    subst (λ l. AllByRecursion IsLight (booked_legs ps l)) (sym done.posted_is)
    (light_from ps done.fills 0 lines done.completes.1.light gaps)
