use Rattle.std.proofs.Common.{◌≡◌, ◌++◌, ◌∷◌, [], map, sym, ap, subst, ◌∙◌, append_assoc, arith}
use Rattle.std.proofs.lemmas.List.{append-nil, map-append, nil_from_length}
use Rattle.std.specs.List.{AllByRecursion}
use Rattle.bean_parser.specs.Waiting.{IsWithin, completed}
use Rattle.bean_parser.proofs.WaitingFacts.{all_behind}
use Rattle.bean_parser.proofs.directives.add_settled.Goals as goal

pub settled-requires : goal.settled-requires
settled-requires c =
    let before = c.loop-one.yielded in
    let after = c.next.new.self.rest.items in
    let within = IsWithin c.args.block.now.value.items in
    (all_behind within before (c.in-Some.one ∷ after)
    (subst (AllByRecursion within)
    (sym c.loop-one.invariant.whole ∙ ap (λ l. before ++ l) c.in-Some.ensures.steps.0)
    c.requires)).0

pub loop-one-init : goal.loop-one-init
loop-one-init c = record {
  whole = c.into_iter-one-iterator.ensures.into_iter_gives.0;
  done = sym (append-nil _);
}

pub loop-one-preserved : goal.loop-one-preserved
loop-one-preserved c =
    let before = c.loop-one.yielded in
    let after = c.next.new.self.rest.items in
    let f = completed c.args.block.now.value.items in
    let one = c.in-Some.one in record {
      whole =
          append_assoc before (one ∷ []) after
          ∙ ap (λ l. before ++ l) (sym c.in-Some.ensures.steps.0)
          ∙ c.loop-one.invariant.whole;
      done =
          c.in_ok-push.ensures.items
          ∙ (λ i. c.loop-one.invariant.done i ++ c.in_ok-settled.ensures i ∷ [])
          ∙ append_assoc _ (map f before) (f one ∷ [])
          ∙ ap (λ l. c.args.directives.now.items ++ l) (sym (map-append f before (one ∷ [])));
    }

pub returns : goal.returns
returns c =
    let left = c.loop-one.one-iterator.rest in
    let count = left.ok.0 in
    let done = c.in-None.ensures.steps.0 in
    let none = nil_from_length left.items (omega (arith, count, done)) in
    let all : c.loop-one.yielded ≡ c.args.waiting.items =
    sym (append-nil c.loop-one.yielded)
    ∙ ap (λ l. c.loop-one.yielded ++ l) (sym none) ∙ c.loop-one.invariant.whole in
    c.loop-one.invariant.done
    ∙ ap (λ l. c.args.directives.now.items ++ map (completed c.args.block.now.value.items) l) all
