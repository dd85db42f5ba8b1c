use Rattle.std.proofs.Common.{◌≡◌, ◌++◌, ◌∷◌, [], to_z, of_z, arith, subst, sym, ap, ◌∙◌}
use Rattle.std.specs.Int.{w128}
use Rattle.std.proofs.lemmas.Int.{ints}
use Rattle.bean_base.specs.Day.{number}
use Rattle.bean_inventories.specs.Days.{RiseInDays}
use Rattle.bean_lots.specs.Inventory.{position_of}
use Rattle.bean_reductions.specs.After.{after}
use Rattle.bean_reductions.specs.Back.{AreBy}
use Rattle.bean_reductions.specs.Candidate.{candidates}
use Rattle.bean_reductions.proofs.LastDayFacts.{by_last, passed}
use Rattle.bean_reductions.proofs.LastFacts.{fits_last, rise_first, small_front}
use Rattle.bean_reductions.proofs.reduction.last.last_day.Goals as goal

pub day_left-requires : goal.day_left-requires
day_left-requires c =
    let n = to_z w128 (of_z w128 c.in-Some.count) in
    let same : n ≡ c.in-Some.count = omega (arith, ints) in
    let e = position_of c.in-Some.key.now n in
    let rest = c.next_back_held.new.self in
    let is : c.loop-key.rest ≡ rest ++ e ∷ [] =
    c.in-Some.ensures.some ∙ ap (λ m. rest ++ position_of c.in-Some.key.now m ∷ []) (sym same) in
    fits_last c.loop-key.rest rest c.args.taken.now e is c.loop-key.invariant.small
    c.requires.taken

pub returns-in-Some-day_left : goal.returns-in-Some-day_left
returns-in-Some-day_left c =
    let s = c.args.selector.now in
    let taken = c.args.taken.now in
    let wide = to_z w128 (of_z w128 c.args.want) in
    let want : wide ≡ c.args.want = omega (arith, ints) in
    let day = c.in-Some-day_left.day in
    let e = position_of c.in-Some.key.now c.in-Some.count in
    subst (λ w. AreBy (number day) (candidates s w (after c.args.positions taken))) want
    (subst (AreBy (number day)) c.loop-key.invariant.told
    (by_last s wide c.loop-key.rest c.next_back_held.new.self taken e day c.in-Some.ensures.some
    c.loop-key.invariant.days c.in-Some-day_left.ensures.some))

pub loop-key-preserved : goal.loop-key-preserved
loop-key-preserved c =
    let s = c.args.selector.now in
    let taken = c.args.taken.now in
    let wide = to_z w128 (of_z w128 c.args.want) in
    let n = to_z w128 (of_z w128 c.in-Some.count) in
    let same : n ≡ c.in-Some.count = omega (arith, ints) in
    let e = position_of c.in-Some.key.now n in
    let rest = c.next_back_held.new.self in
    let is : c.loop-key.rest ≡ rest ++ e ∷ [] =
    c.in-Some.ensures.some ∙ ap (λ m. rest ++ position_of c.in-Some.key.now m ∷ []) (sym same) in
    record {
      small = small_front _ c.loop-key.rest rest e is c.loop-key.invariant.small;
      days = rise_first rest (e ∷ []) (subst RiseInDays is c.loop-key.invariant.days);
      told =
          sym (passed s wide c.loop-key.rest rest taken e is c.in-None.ensures.none)
          ∙ c.loop-key.invariant.told;
    }
