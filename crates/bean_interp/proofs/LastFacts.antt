-- A last leg that lacks its amount, behind legs that lack nothing.
use Rattle.std.proofs.Common.{◌≡◌, ◌+◌, ◌<◌, ◌^◌, ◌||◌, ℕ, Bool, true, false, nat_le, List, [], ◌∷◌}
use Rattle.std.proofs.Common.{◌++◌, length, take, Ok, Err, Result, refl, sym, ap, subst, ◌∙◌, arith}
use Rattle.std.proofs.Math.Seq.{take-append_seam}
use Rattle.std.proofs.lemmas.Bool.Decides.{nat_tests}
use Rattle.std.proofs.lemmas.List.{append-nil, take-append-le, take_all}
use Rattle.std.specs.Int.RustNames.{unsigned_abs}
use Rattle.std.specs.List.{AllByRecursion, list_all}
use Rattle.bean_interp.specs.Causes.{of_weighing}
use Rattle.bean_interp.specs.Completion.{AreFills, Completes, gaps, gaps_from}
use Rattle.bean_interp.specs.Completion.{gaps_of}
use Rattle.bean_interp.specs.Filling.{AreFilled, HaveNumbers, all_currencies, gaps_in}
use Rattle.bean_interp.specs.Lacking.{is_whole, lack_too_much}
use Rattle.bean_interp.specs.Residual.{AreInRange, IsLight, residual}
use Rattle.bean_interp.specs.Scales.{AreSet}
use Rattle.bean_interp.specs.declared.cause.WeighCause.{WeighCause}
use Rattle.bean_interp.specs.declared.cause.WeighCause.TheVariants as weigh
use Rattle.bean_interp.specs.declared.fill.Fill.{Fill}
use Rattle.bean_interp.specs.declared.leg.Leg.{Leg}
use Rattle.bean_interp.specs.declared.leg.Leg.TheVariants.{Whole, MissingNumber, MissingAmount}
use Rattle.bean_interp.specs.declared.scales.Scales.{Scales}
use Rattle.refusals.specs.declared.refusal.Refusal.{Refusal}
use Rattle.refusals.specs.declared.refusal.Refusal.TheVariants.{OutOfMemory, Refused}
use Rattle.bean_interp.proofs.LackingFacts.{none_clash}
use Rattle.bean_interp.proofs.PrecisionFacts.{precision_push}
use Rattle.bean_interp.proofs.WeighingFacts.{weighs_more}

abbrev pub lacking_last : List Leg → List Leg
lacking_last legs = legs ++ MissingAmount ∷ []

-- ---- it weighs nothing

set_with_last : (s : Scales) (legs : List Leg) → AreSet s legs → AreSet s (lacking_last legs)
set_with_last s legs on =
    let more =
    weighs_more s.sums legs MissingAmount
    (record { table_is = on.weighed.sums; range = on.weighed.range }) tt in
    record {
      weighed = record { sums = more.table_is; range = more.range };
      noted = record {
        precisions = λ c. on.noted.precisions c ∙ sym (precision_push legs MissingAmount c);
      };
    }

light_front : (legs more : List Leg) → AllByRecursion IsLight (legs ++ more)
    → AllByRecursion IsLight legs
light_front [] more all = tt
light_front (leg ∷ legs) more all = (all.0, light_front legs more all.1)

-- legs are in range where they are with others behind them
pub front_in_range : (legs more : List Leg) → AreInRange (legs ++ more) → AreInRange legs
front_in_range legs more range = record {
  light = light_front legs more range.light;
  sums = λ k c. at k c (nat_le k (length legs)) refl;
}
  where
    at : (k : ℕ) (c : List ℕ) (b : Bool) → nat_le k (length legs) ≡ b
        → unsigned_abs (residual (take k legs) c) < 10 ^ 38
    at k c true le =
        subst (λ ls. unsigned_abs (residual ls c) < 10 ^ 38)
        (take-append-le k legs more (grind (arith, nat_tests, le))) (range.sums k c)
    at k c false gt =
        subst (λ ls. unsigned_abs (residual ls c) < 10 ^ 38)
        (take-append_seam legs more ∙ sym (take_all k legs (grind (arith, nat_tests, gt))))
        (range.sums (length legs) c)

-- ---- it alone has gaps

pub not_too_much : (legs : List Leg) → list_all is_whole legs ≡ true
    → lack_too_much (lacking_last legs) ≡ false
not_too_much [] whole = refl
not_too_much (Whole w ∷ legs) whole =
    ap (λ b. b || lack_too_much (lacking_last legs)) (none_clash w (lacking_last legs))
    ∙ not_too_much legs whole
not_too_much (MissingNumber c ∷ legs) whole = cc
not_too_much (MissingAmount ∷ legs) whole = cc

pub gaps_behind : (all legs : List Leg) (i n : ℕ) → list_all is_whole legs ≡ true
    → n ≡ i + length legs → gaps_from all i (lacking_last legs) ≡ gaps_of all n MissingAmount
gaps_behind all [] i n whole is =
    let same : i ≡ n = omega (arith, is) in
    append-nil (gaps_of all i MissingAmount) ∙ ap (λ k. gaps_of all k MissingAmount) same
gaps_behind all (Whole w ∷ legs) i n whole is =
    gaps_behind all legs (i + 1) n whole (omega (arith, is))
gaps_behind all (MissingNumber c ∷ legs) i n whole is = cc
gaps_behind all (MissingAmount ∷ legs) i n whole is = cc

-- ---- so what it takes completes all

module _ (legs : List Leg) (whole : list_all is_whole legs ≡ true) (last : ℕ)
    (count : length legs ≡ last) where
  abbrev all : List Leg
  all = lacking_last legs

  its_gaps : gaps all ≡ gaps_in all last (all_currencies all)
  its_gaps = gaps_behind all legs 0 last whole (omega (arith, count))

  pub filled_last : (s : Scales) (old fills : List Fill) → old ≡ [] → AreSet s legs
      → (AreSet s all → AreFilled all (gaps_in all last (all_currencies all)) old fills)
      → AreFills all fills × AreInRange all × (lack_too_much all ≡ false)
  filled_last s old fills none on filled =
      let set = set_with_last s legs on in
      let f = filled set in
      let same : fills ≡ f.added = f.is ∙ ap (λ l. l ++ f.added) none in (
        subst (AreFills all) (sym same)
            (record { gaps_are = f.gaps_are ∙ sym its_gaps; are_due = f.are_due }),
        set.weighed.range,
        not_too_much legs whole,
      )

  pub completed_last : (s : Scales) (old fills : List Fill) → old ≡ [] → AreSet s legs
      → (AreSet s all → AreFilled all (gaps_in all last (all_currencies all)) old fills)
      → Completes all (Ok fills)
  completed_last s old fills none on filled =
      let f = filled_last s old fills none on filled in (f.2, f.1, f.0)

  -- or nothing does
  pub stopped_last : (s : Scales) (e : Refusal WeighCause) → AreSet s legs
      → (AreSet s all
      → ◌≡◌ {A = Result (Unit {0}) (Refusal WeighCause)} (Err e) (Err (Refused weigh.TooWide))
      → ¬ HaveNumbers all (gaps_in all last (all_currencies all)))
      → Completes all (Err (of_weighing e))
  stopped_last s (Refused weigh.TooWide) on none = (
    not_too_much legs whole,
    λ both.
        none (set_with_last s legs on) refl
        (subst (HaveNumbers all) its_gaps both.1),
  )
  stopped_last s OutOfMemory on none = tt

-- as where the legs before it are in no range
pub stopped_before_last : (legs : List Leg) → list_all is_whole legs ≡ true
    → (e : Refusal WeighCause)
    → (◌≡◌ {A = Result (Unit {0}) (Refusal WeighCause)} (Err e) (Err (Refused weigh.TooWide))
    → ¬ AreInRange legs)
    → Completes (lacking_last legs) (Err (of_weighing e))
stopped_before_last legs whole (Refused weigh.TooWide) wide =
    (not_too_much legs whole, λ both. wide refl (front_in_range legs (MissingAmount ∷ []) both.0))
stopped_before_last legs whole OutOfMemory wide = tt
