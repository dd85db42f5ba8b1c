use Rattle.std.proofs.Common.{◌∙◌}
use Rattle.bean_pushes.specs.Gifts.{with_items}
use Rattle.bean_pushes.proofs.GiftFacts.{nothing_given}
use Rattle.bean_pushes.proofs.gifts.Gifts.new.Goals as goal

pub returns : goal.returns
returns c = λ ds.
    let tags = c.new.ensures.items in
    let entries = c.new-2.ensures.items in
    (λ j. with_items (tags j) (entries j) ds) ∙ nothing_given ds
