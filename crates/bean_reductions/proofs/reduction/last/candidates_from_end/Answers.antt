use Rattle.std.proofs.Common.{◌≡◌, ◌++◌, ◌∷◌, [], ◌+ℤ◌, reverse, to_z, of_z, arith}
use Rattle.std.proofs.Common.{subst, sym, ap, ◌∙◌, ◌-◌, length, slice_get, true}
use Rattle.std.specs.Int.{w128}
use Rattle.std.specs.Int.RustNames.{unsigned_abs}
use Rattle.std.proofs.lemmas.Int.{ints}
use Rattle.bean_inventories.specs.Days.{RiseInDays}
use Rattle.bean_lots.specs.Inventory.{count_of, position_of}
use Rattle.bean_reductions.specs.After.{after}
use Rattle.bean_reductions.specs.Back.{IsBack, is_earlier}
use Rattle.bean_reductions.specs.Candidate.{candidate_of, candidates}
use Rattle.bean_reductions.proofs.AfterFacts.{missing_after}
use Rattle.bean_reductions.proofs.FrontFacts.{by_day}
use Rattle.bean_reductions.proofs.LastFacts.{back_at, fits_last, rise_first, small_front, step_back}
use Rattle.bean_reductions.proofs.reduction.last.candidates_from_end.Goals as goal

pub returns-then-is_earlier : goal.returns-then-is_earlier
returns-then-is_earlier c =
    let s = c.args.selector.now in
    let taken = c.args.taken.now in
    let wide = to_z w128 (of_z w128 c.args.want) in
    let want : wide ≡ c.args.want = omega (arith, ints) in
    let found = c.loop-key.found.items in
    let e = position_of c.in-Some.key.now c.in-Some.count in
    let missing = c.loop-key.invariant.missing in
    let none = c.if-missing-eq0.true in
    let all = candidates s wide (after c.args.positions taken) in
    subst (λ w. IsBack (unsigned_abs w) (reverse found) (candidates s w (after c.args.positions taken)))
    want
    (back_at s wide c.loop-key.rest c.next_back_held.new.self taken e found all (unsigned_abs wide)
    c.loop-key.invariant.days c.in-Some.ensures.some
    (subst (λ l. is_earlier e.key.lot (slice_get l (length l - 1)) ≡ true) c.deref.ensures.value
    (sym c.is_earlier.ensures ∙ c.if-is_earlier.true))
    (by_day s wide c.args.positions taken c.requires.days) c.loop-key.invariant.told
    (omega (arith, missing, none)))

pub push_left-requires : goal.push_left-requires
push_left-requires c =
    let n = to_z w128 (of_z w128 c.in-Some.count) in
    let same : n ≡ c.in-Some.count = omega (arith, ints) in
    let e = position_of c.in-Some.key.now n in
    let rest = c.next_back_held.new.self in
    let is : c.loop-key.rest ≡ rest ++ e ∷ [] =
    c.in-Some.ensures.some ∙ ap (λ m. rest ++ position_of c.in-Some.key.now m ∷ []) (sym same) in
    fits_last c.loop-key.rest rest c.args.taken.now e is c.loop-key.invariant.small
    c.requires.taken

pub loop-key-preserved : goal.loop-key-preserved
loop-key-preserved c =
    let s = c.args.selector.now in
    let taken = c.args.taken.now in
    let wide = to_z w128 (of_z w128 c.args.want) in
    let found = c.loop-key.found.items in
    let more = c.push_left.new.found.items in
    let n = to_z w128 (of_z w128 c.in-Some.count) in
    let same : n ≡ c.in-Some.count = omega (arith, ints) in
    let e = position_of c.in-Some.key.now n in
    let rest = c.next_back_held.new.self in
    let is : c.loop-key.rest ≡ rest ++ e ∷ [] =
    c.in-Some.ensures.some ∙ ap (λ m. rest ++ position_of c.in-Some.key.now m ∷ []) (sym same) in
    let own = candidate_of s wide e.key.currency e.key.lot (e.count +ℤ count_of taken e.key) in
    record {
      small = small_front _ c.loop-key.rest rest e is c.loop-key.invariant.small;
      days = rise_first rest (e ∷ []) (subst RiseInDays is c.loop-key.invariant.days);
      missing =
          missing_after (unsigned_abs wide) found more own c.loop-key.missing
          c.in_ok-units.units c.saturating_sub-missing.result c.in_ok-units.ensures.found
          c.in_ok-units.ensures.units c.loop-key.invariant.missing
          c.saturating_sub-missing.ensures;
      told =
          step_back s wide c.loop-key.rest rest taken e found more _ is
          c.in_ok-units.ensures.found c.loop-key.invariant.told;
    }
