use Rattle.std.proofs.Common.{◌≡◌, ◌+◌, ◌∙◌, sym, ap, drop, take, arith}
use Rattle.std.proofs.Common.{◌++◌, ◌∷◌, []}
use Rattle.bean_directives.specs.declared.undated.PushName.{PushName}
use Rattle.bean_pushes.specs.Gifts.{with_gifts}
use Rattle.bean_pushes.specs.Matches.{open_in}
use Rattle.bean_pushes.specs.Scope.{latest, name_in, open_pushes, reach_of}
use Rattle.bean_pushes.specs.Scope.{with_pushes}
use Rattle.bean_pushes.proofs.MatchFacts.{drop_is, few_reaches, given_as, open_next, reach_is}
use Rattle.bean_pushes.proofs.MatchFacts.{take_next}
use Rattle.bean_pushes.proofs.scope.give_all.Goals as goal

pub bounds-reaches-i : goal.bounds-reaches-i
bounds-reaches-i c =
    few_reaches c.args.bounds.now c.args.reaches.now c.loop-i.i c.requires c.loop-i-test.true

pub loop-i-init : goal.loop-i-init
loop-i-init c = record {
  left = ap (with_pushes [] c.args.bounds.now) (c.new-gifts.ensures c.args.directives.now.items);
  pushes = c.new-opens.ensures;
  inside = omega arith;
}

pub loop-i-preserved : goal.loop-i-preserved
loop-i-preserved c =
    let bounds = c.args.bounds.now in
    let i = c.loop-i.i in
    let b = c.index-bounds-i.result in
    let inside = c.loop-i-test.true in
    let before = take i bounds in
    let behind = drop (i + 1) bounds in
    let name = name_in b.bound in
    let old = with_gifts c.loop-i.gifts c.loop-i.directives.items in
    let new = with_gifts c.add.new.self c.add.new.directives.items in
    let opens = c.take.new.self in
    let front = take_next bounds i (i + 1) b (omega arith) inside c.index-bounds-i.is in
    let cut = drop_is bounds i (i + 1) b (omega arith) inside c.index-bounds-i.is in
    let pushes : (n : PushName) → open_in opens n ≡ open_pushes n [] (before ++ b ∷ []) =
    λ n. open_next n before b _ _ (c.in_ok-take.ensures n) (c.loop-i.invariant.pushes n) in
    let is_latest =
    c.latest-latest.ensures ∙ ap (λ n. latest (open_in opens n)) c.name_in.ensures
    ∙ ap latest (pushes name) in
    record {
      left = ap (λ t. with_pushes t behind new) front
          ∙ ap (with_pushes (before ++ b ∷ []) behind)
          (given_as _ (latest (open_pushes name [] (before ++ b ∷ []))) _ (reach_of name behind)
          b.place old new c.in_ok-add.ensures is_latest
          (reach_is bounds c.args.reaches.now i (i + 1) b _ c.requires (omega arith) inside
          c.index-bounds-i.is))
          ∙ sym (ap (λ bs. with_pushes before bs old) cut)
          ∙ c.loop-i.invariant.left;
      pushes = λ n. pushes n ∙ sym (ap (open_pushes n []) front);
      inside = omega (arith, inside);
    }
