use Rattle.std.proofs.Common.{◌≡◌, ◌++◌, ◌∷◌, ◌+ℤ◌, inr, length, sum_by, to_z, of_z, arith, subst, sym}
use Rattle.std.proofs.Common.{ap, ◌∙◌}
use Rattle.std.specs.Int.{w128}
use Rattle.std.specs.Int.RustNames.{unsigned_abs}
use Rattle.std.specs.Vec.{vec_len}
use Rattle.std.proofs.lemmas.Int.{ints}
use Rattle.bean_reductions.specs.After.{after}
use Rattle.bean_reductions.specs.Candidate.{candidates, candidate_of}
use Rattle.bean_lots.specs.Inventory.{count_of, position_of}
use Rattle.bean_reductions.specs.Take.{units_of}
use Rattle.bean_reductions.proofs.AfterFacts.{step, fits_next, small_rest, units_after}
use Rattle.bean_reductions.proofs.FrontFacts.{reached_by}
use Rattle.bean_reductions.proofs.reduction.after.candidates_after.Goals as goal

pub push_left-requires : goal.push_left-requires
push_left-requires c =
    let n = to_z w128 (of_z w128 c.in-Some.count) in
    let same : n ≡ c.in-Some.count = omega (arith, ints) in
    let e = position_of c.in-Some.key.now n in
    let rest = c.next_held.new.self in
    let is : c.loop-key.rest ≡ e ∷ rest =
    c.in-Some.ensures.some ∙ ap (λ m. position_of c.in-Some.key.now m ∷ rest) (sym same) in
    fits_next c.loop-key.rest rest c.args.taken.now e is c.loop-key.invariant.small
    c.requires.taken

pub returns-then-is_reached : goal.returns-then-is_reached
returns-then-is_reached c =
    let s = c.args.selector.now in
    let taken = c.args.taken.now in
    let wide = to_z w128 (of_z w128 c.args.want) in
    let want : wide ≡ c.args.want = omega (arith, ints) in
    let found = c.loop-key.found.items in
    let more = c.push_left.new.found.items in
    let n = to_z w128 (of_z w128 c.in-Some.count) in
    let same : n ≡ c.in-Some.count = omega (arith, ints) in
    let e = position_of c.in-Some.key.now n in
    let rest = c.next_held.new.self in
    let is : c.loop-key.rest ≡ e ∷ rest =
    c.in-Some.ensures.some ∙ ap (λ m. position_of c.in-Some.key.now m ∷ rest) (sym same) in
    let own = candidate_of s wide e.key.currency e.key.lot (e.count +ℤ count_of taken e.key) in
    let told =
    step s wide c.loop-key.rest rest taken e found more is
    c.in_ok-more.ensures.found ∙ c.loop-key.invariant.told in
    let lots : vec_len c.push_left.new.found ≡ length more = c.push_left.new.found.ok.0 in
    let units =
    units_after found more own c.loop-key.units c.in_ok-more.more c.saturating_add-units.result
    c.in_ok-more.ensures.found c.in_ok-more.ensures.units c.loop-key.invariant.units
    (omega (arith, c.saturating_add-units.ensures)) in
    record {
      rest = candidates s c.args.want (after rest taken);
      all =
          subst (λ w. candidates s w (after c.args.positions taken)
          ≡ more ++ candidates s w (after rest taken)) want (sym told);
      enough =
          inr
          (reached_by c.args.front c.unsigned_abs.result (unsigned_abs c.args.want)
          c.len.result (length more) c.saturating_add-units.result (sum_by units_of more)
          (c.unsigned_abs.ensures.value ∙ ap unsigned_abs want)
          (c.len.ensures ∙ lots) units
          (c.is_reached.ensures c.if-is_reached.true));
    }

pub loop-key-preserved : goal.loop-key-preserved
loop-key-preserved c =
    let s = c.args.selector.now in
    let taken = c.args.taken.now in
    let wide = to_z w128 (of_z w128 c.args.want) in
    let found = c.loop-key.found.items in
    let more = c.push_left.new.found.items in
    let n = to_z w128 (of_z w128 c.in-Some.count) in
    let same : n ≡ c.in-Some.count = omega (arith, ints) in
    let e = position_of c.in-Some.key.now n in
    let rest = c.next_held.new.self in
    let is : c.loop-key.rest ≡ e ∷ rest =
    c.in-Some.ensures.some ∙ ap (λ m. position_of c.in-Some.key.now m ∷ rest) (sym same) in
    let own = candidate_of s wide e.key.currency e.key.lot (e.count +ℤ count_of taken e.key) in
    record {
      small =
          small_rest _ c.loop-key.rest rest e is
          c.loop-key.invariant.small;
      units =
          units_after found more own c.loop-key.units c.in_ok-more.more
          c.saturating_add-units.result c.in_ok-more.ensures.found c.in_ok-more.ensures.units
          c.loop-key.invariant.units (omega (arith, c.saturating_add-units.ensures));
      told =
          step s wide c.loop-key.rest rest taken e found more is
          c.in_ok-more.ensures.found ∙ c.loop-key.invariant.told;
    }
