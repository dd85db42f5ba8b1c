use Rattle.std.proofs.Common.{◌≡◌, ◌∙◌, [], ap, refl, rules, sym}
use Rattle.bean_pushes.specs.Gifts.{with_gifts, with_items}
use Rattle.bean_pushes.specs.Scope.{given_between}
use Rattle.bean_pushes.proofs.GiftFacts.{nothing_given}
use Rattle.bean_pushes.proofs.gifts.Gifts.add.Goals as goal

-- what was kept is nothing then
pub returns-then-gives_at_once : goal.returns-then-gives_at_once
returns-then-gives_at_once c =
    let old = c.args.self.now in
    let new = c.gives_at_once.new.self in
    let ds = c.args.directives.now.items in
    let after = c.give_between.new.directives.items in
    let pushed = c.in-Some-Some.pushed.now in
    let to = c.in-Some-Some.to in
    let tags : old.tags.items ≡ [] = c.if-gives_at_once.ensures.tags refl in
    let entries : old.entries.items ≡ [] = c.if-gives_at_once.ensures.entries refl in
    let none : with_gifts old ds ≡ ds =
    (λ j. with_items (tags j) (entries j) ds) ∙ nothing_given ds in
    let still : with_gifts new after ≡ after =
    (λ j. with_items (c.gives_at_once.ensures.same_tags j) (c.gives_at_once.ensures.same_entries j) after)
    ∙ (λ j. with_items (tags j) (entries j) after) ∙ nothing_given after in
    let t : with_gifts new after ≡ given_between pushed c.args.from to 0 (with_gifts old ds) =
    still ∙ c.in_ok-give_between-in-Some-Some.ensures
    ∙ ap (given_between pushed c.args.from to 0) (sym none) in
    search (rules, t)
