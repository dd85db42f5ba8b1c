use Rattle.std.proofs.Common.{◌≡◌, ◌∙◌, length, sym, arith}
use Rattle.std.proofs.lemmas.Bool.Decides.{nat_tests}
use Rattle.std.proofs.lemmas.Grind.{common_steps}
use Rattle.std.proofs.lemmas.List.{nil_from_length}
use Rattle.bean_pushes.specs.Gifts.{with_items}
use Rattle.bean_pushes.proofs.GiftFacts.{nothing_given}
use Rattle.bean_pushes.proofs.gifts.Gifts.give.Goals as goal

pub returns-then-is_empty-2 : goal.returns-then-is_empty-2
returns-then-is_empty-2 c =
    let ds = c.args.directives.now.items in
    let ts = c.args.self.tags.items in
    let es = c.args.self.entries.items in
    let no_tags : length ts ≡ 0 =
    grind (arith, common_steps, nat_tests, c.is_empty.ensures, c.if-is_empty.true) in
    let no_entries : length es ≡ 0 =
    grind (arith, common_steps, nat_tests, c.is_empty-then-is_empty.ensures, c.if-is_empty-2.true)
    in
    let tags = nil_from_length ts no_tags in
    let entries = nil_from_length es no_entries in
    sym ((λ j. with_items (tags j) (entries j) ds) ∙ nothing_given ds)
