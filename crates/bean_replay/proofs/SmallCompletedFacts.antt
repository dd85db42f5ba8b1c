-- What is filled in is of small currencies where the lines are small, and so is what is booked.
use Rattle.std.proofs.Common.{◌≡◌, ℕ, ◌+◌, ◌==◌, Bool, true, false, cond, List, [], ◌∷◌, ◌++◌}
use Rattle.std.proofs.Common.{filter, map, reverse, slice_get, Option, Some, None, IfSome}
use Rattle.std.proofs.Common.{Ok, sym, subst}
use Rattle.std.specs.List.{AllByRecursion, list_any}
use Rattle.std.specs.Str.{bytes_eq}
use Rattle.bean_base.specs.declared.amounts.Amount as amounts
use Rattle.bean_postings.specs.declared.posting.Posting.{Posting}
use Rattle.bean_postings.specs.declared.price.Price as prices
use Rattle.bean_postings.specs.declared.price.Price.TheVariants as price_kind
use Rattle.bean_interp.specs.Completion.{gap_of, gaps, gaps_from, gaps_of, taken_by}
use Rattle.bean_interp.specs.Residual.{Weighed, currencies, lacking, lacks_in, weighed, weighed_in}
use Rattle.bean_interp.specs.Residual.{with_new}
use Rattle.bean_interp.specs.Weight.{currency_of}
use Rattle.bean_interp.specs.declared.fill.Fill.{Fill}
use Rattle.bean_interp.specs.declared.leg.Leg.{Leg}
use Rattle.bean_interp.specs.declared.leg.Leg.TheVariants as leg
use Rattle.bean_lots.specs.declared.lot.Lot.{Lot}
use Rattle.bean_transactions.specs.Lined.{Setting}
use Rattle.bean_transactions.specs.Tried.{IsCompleted, Tries, filled_at, filled_in, leg_of, legs_of}
use Rattle.bean_transactions.specs.Tried.{posts_at, posts_from, whole_at, worth_of}
use Rattle.bean_transactions.specs.declared.line.Line.{Line}
use Rattle.bean_transactions.specs.declared.line.Line.TheVariants as line
use Rattle.bean_holdings.specs.declared.posted.Posted.{Posted}
use Rattle.bean_replay.specs.Small.{IsSmallLot, IsSmallPosted}
use Rattle.bean_directives.specs.SmallPart.{IsShort, IsShortCurrency, IsShortPrice, IsSmallPosting}
use Rattle.bean_replay.proofs.SmallLinedFacts.{AreSmallLines, IsSmallLine, lines_small}
use Rattle.bean_replay.proofs.SmallListFacts.{all_at, all_filtered, all_flat, all_folded, all_mapped}
use Rattle.bean_replay.proofs.SmallListFacts.{all_reversed, all_unmapped}
use Rattle.theory.proofs.AllFacts.{all_joined, all_pushed}

-- ---- legs

-- the currency that it weighs in or lacks
abbrev pub IsSmallLeg : Leg → Type 0
IsSmallLeg (leg.Whole w) = IsShortCurrency (currency_of w.units w.worth)
IsSmallLeg (leg.MissingNumber c) = IsShortCurrency c
IsSmallLeg leg.MissingAmount = Unit {0}

worth_small : (units : amounts.Amount) (lot : Option Lot) (price : prices.Price)
    → IsShortCurrency units.currency → IfSome lot IsSmallLot → IsShortPrice price
    → IsShortCurrency (currency_of units (worth_of lot price))
worth_small units (Some lot) price c small short = small.0
worth_small units None price_kind.Absent c small short = c
worth_small units None (price_kind.PerUnit a) c small short = short
worth_small units None (price_kind.Total a) c small short = short
worth_small units None price_kind.OutsideProfile c small short = c

whole_small : (o : Option Posting) (p : Posted) → IfSome o IsSmallPosting → IsSmallPosted p
    → IsSmallLeg (leg.Whole (whole_at o p))
whole_small (Some w) p written small =
    worth_small p.units p.lot w.details.price small.currency small.lot written.price
whole_small None p written small =
    worth_small p.units p.lot price_kind.Absent small.currency small.lot tt

leg_small : (ps : List Posting) (l : Line) → AllByRecursion IsSmallPosting ps → IsSmallLine l
    → IsSmallLeg (leg_of ps l)
leg_small ps (line.Posted p) all small =
    whole_small (slice_get ps p.written) p (all_at IsSmallPosting ps p.written all) small
leg_small ps (line.Take p) all small =
    whole_small (slice_get ps p.written) p (all_at IsSmallPosting ps p.written all) small
leg_small ps (line.MissingNumber a c i) all small = small.1
leg_small ps (line.MissingAmount a i) all small = tt

-- ---- gaps

abbrev AreShortCurrencies : List (List ℕ) → Type 0
AreShortCurrencies cs = AllByRecursion IsShortCurrency cs

abbrev IsSmallWeight : Weighed → Type 0
IsSmallWeight w = IsShortCurrency w.0

abbrev IsSmallGap : ℕ × List ℕ → Type 0
IsSmallGap g = IsShortCurrency g.1

abbrev IsSmallFill : Fill → Type 0
IsSmallFill f = IsShortCurrency f.amount.currency

weight_small : (l : Leg) → IsSmallLeg l → AllByRecursion IsSmallWeight (weighed_in l)
weight_small (leg.Whole w) small = (small, tt)
weight_small (leg.MissingNumber c) small = tt
weight_small leg.MissingAmount small = tt

new_small : (cs : List (List ℕ)) (c : List ℕ) → AreShortCurrencies cs → IsShortCurrency c
    → AreShortCurrencies (with_new cs c)
new_small cs c all small = by (list_any (bytes_eq c) cs)
  where
    by : (b : Bool) → AreShortCurrencies (cond b cs (cs ++ c ∷ []))
    by true = all
    by false = all_pushed IsShortCurrency cs c all small

lacking_small : (legs : List Leg) → AllByRecursion IsSmallLeg legs
    → AreShortCurrencies (lacking legs)
lacking_small legs all =
    all_filtered IsShortCurrency (lacks_in legs) (currencies (weighed legs))
    (all_folded IsSmallWeight AreShortCurrencies (λ cs w. with_new cs w.0)
    (λ cs w h small. new_small cs w.0 h small) (weighed legs) [] tt
    (all_flat IsSmallLeg IsSmallWeight weighed_in weight_small legs all))

taken_small : (all : List Leg) (l : Leg) → AreShortCurrencies (lacking all) → IsSmallLeg l
    → AreShortCurrencies (taken_by all l)
taken_small all (leg.Whole w) lack small = tt
taken_small all (leg.MissingNumber c) lack small = (small, tt)
taken_small all leg.MissingAmount lack small = lack

gaps_small : (all : List Leg) (i : ℕ) (legs : List Leg) → AreShortCurrencies (lacking all)
    → AllByRecursion IsSmallLeg legs → AllByRecursion IsSmallGap (gaps_from all i legs)
gaps_small all i [] lack small = tt
gaps_small all i (l ∷ legs) lack small =
    all_joined IsSmallGap (gaps_of all i l) (gaps_from all (i + 1) legs)
    (all_mapped IsShortCurrency IsSmallGap (λ c. (i, c)) (λ c short. short) (taken_by all l)
    (taken_small all l lack small.0)) (gaps_small all (i + 1) legs lack small.1)

fills_small : (legs : List Leg) (fills : List Fill) → map gap_of fills ≡ gaps legs
    → AllByRecursion IsSmallLeg legs → AllByRecursion IsSmallFill fills
fills_small legs fills e all =
    all_unmapped IsSmallFill IsSmallGap gap_of (λ f small. small) fills
    (subst (AllByRecursion IsSmallGap) (sym e)
    (gaps_small legs 0 legs (lacking_small legs all) all))

-- ---- what is booked

filled_small : (fills : List Fill) (k : ℕ) (account : List ℕ) (i : ℕ) → IsShort account
    → AllByRecursion IsSmallFill fills → AllByRecursion IsSmallPosted (filled_at fills k account i)
filled_small fills k account i a all =
    all_mapped IsSmallFill IsSmallPosted (filled_in account i)
    (λ f small. record { account = a; currency = small; lot = tt })
    (filter (λ f. f.leg == k) fills)
    (all_filtered IsSmallFill (λ f. f.leg == k) fills all)

post_small : (fills : List Fill) (k : ℕ) (l : Line) → AllByRecursion IsSmallFill fills
    → IsSmallLine l → AllByRecursion IsSmallPosted (posts_at fills k l)
post_small fills k (line.Posted p) all small = (small, tt)
post_small fills k (line.Take p) all small = (small, tt)
post_small fills k (line.MissingNumber a c i) all small = filled_small fills k a i small.0 all
post_small fills k (line.MissingAmount a i) all small = filled_small fills k a i small all

posts_small : (fills : List Fill) (k : ℕ) (ls : List Line) → AllByRecursion IsSmallFill fills
    → AreSmallLines ls → AllByRecursion IsSmallPosted (posts_from fills k ls)
posts_small fills k [] all small = tt
posts_small fills k (l ∷ ls) all small =
    all_joined IsSmallPosted (posts_at fills k l) (posts_from fills (k + 1) ls)
    (post_small fills k l all small.0) (posts_small fills (k + 1) ls all small.1)

completed_small : (ps : List Posting) (ls : List Line) (posted : List Posted)
    → IsCompleted ps ls posted → AllByRecursion IsSmallPosting ps → AreSmallLines ls
    → AllByRecursion IsSmallPosted posted
completed_small ps ls posted h all small =
    subst (AllByRecursion IsSmallPosted) (sym h.posted_is)
    (posts_small h.fills 0 ls
    (fills_small (legs_of ps ls) h.fills h.completes.2.gaps_are
    (all_mapped IsSmallLine IsSmallLeg (leg_of ps) (λ l own. leg_small ps l all own) ls small))
    small)

-- a transaction of small postings is booked as small ones, behind small ones
pub kept_small : (s : Setting) (ps : List Posting) (posted : List Posted) → Tries s ps (Ok posted)
    → AllByRecursion IsSmallPosting ps → AllByRecursion IsSmallPosted s.before
    → AllByRecursion IsSmallPosted posted
kept_small s ps posted h all before =
    completed_small ps h.1.lines posted h.1.completed all
    (lines_small s (reverse ps) h.1.lines h.1.lined (all_reversed IsSmallPosting ps all) before)
