-- Transactions that are booked as they are written.
use Rattle.std.proofs.Common.{◌≡◌, inr, ℕ, ◌+◌, true, false, List, [], ◌∷◌, ◌++◌, map}
use Rattle.std.proofs.Common.{length, reverse, Ok, Err, refl, sym, ap, ◌∙◌}
use Rattle.std.proofs.Common.{subst, arith, length-append}
use Rattle.std.proofs.lemmas.List.{map-append, reverse-append}
use Rattle.std.specs.List.{list_all}
use Rattle.bean_interp.specs.Balance.{Judges}
use Rattle.bean_interp.specs.Completion.{Completes}
use Rattle.bean_interp.specs.Lacking.{is_whole}
use Rattle.bean_interp.specs.Residual.{AreInRange}
use Rattle.bean_interp.specs.Causes.{of_weighing}
use Rattle.refusals.specs.declared.refusal.Refusal.{Refusal}
use Rattle.bean_interp.specs.declared.cause.WeighCause.{WeighCause}
use Rattle.bean_interp.specs.declared.fill.Fill.{Fill}
use Rattle.bean_interp.specs.declared.cause.WeighCause.TheVariants.{TooWide}
use Rattle.refusals.specs.declared.refusal.Refusal.TheVariants.{OutOfMemory, Refused}
use Rattle.bean_interp.proofs.WholeFacts.{none_filled, none_lack}
use Rattle.bean_postings.specs.declared.posting.Posting.{Posting}
use Rattle.bean_transactions.specs.declared.stop.LineFault.{LineFault}
use Rattle.bean_transactions.specs.Held.{left}
use Rattle.bean_transactions.specs.Lined.{AreLined, IsLinedByCost, IsLinedByUnits, IsNext, Setting}
use Rattle.bean_transactions.specs.Outcome.{StopsAt}
use Rattle.bean_transactions.specs.Plain.{AreAsWritten, IsAsWritten}
use Rattle.bean_transactions.specs.Tried.{IsKept, LacksOrIsWide, Tries, booked_legs, is_outside}
use Rattle.bean_transactions.specs.Tried.{leg_of, legs_of, posts_from}
use Rattle.bean_transactions.specs.declared.line.Line.{Line}
use Rattle.bean_transactions.specs.declared.line.Line.TheVariants as line
use Rattle.bean_holdings.specs.declared.posted.Posted.{Posted}
use Rattle.refusals.specs.declared.refusal.Refusal.TheVariants as stop

-- the lines of such postings
abbrev pub lines_as : List Posted → List Line
lines_as qs = map (λ q. line.Posted q) qs

-- ---- what comes of them

next_as_written : (s : Setting) (ls : List Line) (i : ℕ) (p : Posting) (q : Posted)
    → IsAsWritten i p q → IsNext s ls i p (Ok (line.Posted q ∷ []))
next_as_written s ls i p q is =
    let m = s.method_of p.account in
    let rest = left p.account s.before ls in
    let r = Ok (line.Posted q ∷ []) in
    subst (λ u. IsLinedByUnits m rest s.head p.account u p.details.cost i p.details.line r)
    (sym is.units_are)
    (subst (λ c. IsLinedByCost m rest s.head p.account q.units c i p.details.line r)
    (sym is.cost_is)
    (λ k. Ok (line.Posted record {
      account = is.account_is k;
      units = q.units;
      lot = is.lot_is k;
      written = is.written_is k;
    } ∷ [])))

pub lined_as_written : (s : Setting) (ps : List Posting) (qs : List Posted) → AreAsWritten ps qs
    → AreLined s ps (lines_as qs)
lined_as_written s [] qs are = ap lines_as are
lined_as_written s (p ∷ ps) qs (earlier, q, before, is, more) = (
  lines_as earlier,
  line.Posted q ∷ [],
  lined_as_written s ps earlier before,
  next_as_written s (lines_as earlier) (length ps) p q is,
  ap lines_as more ∙ map-append (λ q. line.Posted q) earlier (q ∷ []),
)

pub legs_as_written : (ps : List Posting) (qs : List Posted)
    → legs_of ps (lines_as qs) ≡ booked_legs ps qs
legs_as_written ps [] = refl
legs_as_written ps (q ∷ qs) = ap (λ l. leg_of ps (line.Posted q) ∷ l) (legs_as_written ps qs)

-- whatever is filled in at other lines
pub posts_as_written : (fills : List Fill) (k : ℕ) (qs : List Posted)
    → posts_from fills k (lines_as qs) ≡ qs
posts_as_written fills k [] = refl
posts_as_written fills k (q ∷ qs) = ap (λ l. q ∷ l) (posts_as_written fills (k + 1) qs)

pub all_whole : (ps : List Posting) (qs : List Posted) → list_all is_whole (booked_legs ps qs) ≡ true
all_whole ps [] = refl
all_whole ps (q ∷ qs) = all_whole ps qs

-- ---- one posting more

pub as_many : (ps : List Posting) (qs : List Posted) → AreAsWritten ps qs → length qs ≡ length ps
as_many [] qs are = ap length are
as_many (p ∷ ps) qs (earlier, q, before, is, more) =
    let front = as_many ps earlier before in
    let longer = ap length more ∙ length-append earlier (q ∷ []) in omega (arith, front, longer)

pub one_more_written : (before : List Posting) (p : Posting) (earlier qs : List Posted) (q : Posted)
    → AreAsWritten (reverse before) earlier → IsAsWritten (length earlier) p q
    → qs ≡ earlier ++ q ∷ [] → AreAsWritten (reverse (before ++ p ∷ [])) qs
one_more_written before p earlier qs q are is more =
    subst (λ l. AreAsWritten l qs) (sym (reverse-append before (p ∷ []))) (
      earlier,
      q,
      are,
      subst (λ n. IsAsWritten n p q) (as_many (reverse before) earlier are) is,
      more,
    )

-- ---- the whole

pub kept_as_written : (s : Setting) (ps : List Posting) (qs : List Posted)
    → AreAsWritten (reverse ps) qs → AreInRange (booked_legs ps qs) → IsKept s ps qs
kept_as_written s ps qs are range = record {
  lines = lines_as qs;
  lined = lined_as_written s (reverse ps) qs are;
  completed = record {
    fills = [];
    completes = subst (λ legs. Completes legs (Ok [])) (sym (legs_as_written ps qs)) (
      none_lack (booked_legs ps qs) (all_whole ps qs),
      range,
      none_filled (booked_legs ps qs) (all_whole ps qs),
    );
    posted_is = sym (posts_as_written [] 0 qs);
  };
}

-- what stops the weighing stops the completion
pub wide_as_written : (ps : List Posting) (qs : List Posted) (e : Refusal WeighCause)
    → Judges (booked_legs ps qs) (Err e) → Completes (booked_legs ps qs) (Err (of_weighing e))
wide_as_written ps qs (Refused TooWide) wide =
    (none_lack (booked_legs ps qs) (all_whole ps qs), λ both. wide both.0)
wide_as_written ps qs OutOfMemory lacks = tt

pub stopped_as_written : (s : Setting) (ps : List Posting) (qs : List Posted) (e : Refusal LineFault)
    → AreAsWritten (reverse ps) qs → is_outside ps ≡ false
    → StopsAt (LacksOrIsWide s.head.line (booked_legs ps qs)) e
    → StopsAt (λ f. Tries s ps (Err f)) e
stopped_as_written s ps qs (stop.Refused f) are inside why =
    inr (
      inside,
      inr (record {
        lines = lines_as qs;
        lined = lined_as_written s (reverse ps) qs are;
        why = subst (λ legs. LacksOrIsWide s.head.line legs f) (sym (legs_as_written ps qs)) why;
      }),
    )
stopped_as_written s ps qs stop.OutOfMemory are inside why = tt
