use Rattle.std.proofs.Common.{rules}
use Rattle.bean_pushes.proofs.GiftFacts.{entry_added, tag_added}
use Rattle.bean_pushes.proofs.gifts.Gifts.keep.Goals as goal

pub returns-in_ok-push-in-Tag : goal.returns-in_ok-push-in-Tag
returns-in_ok-push-in-Tag c = λ ds.
    let old = c.args.self.now in
    let t =
    tag_added old.tags.items old.entries.items c.in-Tag.tag c.args.from
    c.args.to ds in
    search (rules, t)

pub returns-in_ok-push-in-Entry : goal.returns-in_ok-push-in-Entry
returns-in_ok-push-in-Entry c = λ ds.
    let old = c.args.self.now in
    let t =
    entry_added old.tags.items old.entries.items c.in-Entry.entry c.args.from
    c.args.to ds in
    search (rules, t)
