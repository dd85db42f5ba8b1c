use Rattle.std.proofs.Common.{◌≡◌, ◌∙◌, true, false, refl, rules}
use Rattle.std.specs.Option.{is_some}
use Rattle.std.proofs.lemmas.Result.{on_ok_weaker}
use Rattle.bean_reductions.proofs.AfterFacts.{count_small}
use Rattle.bean_base.specs.Counts.{at_8}
use Rattle.bean_holdings.specs.Held.{key_of}
use Rattle.bean_holdings.specs.Holdings.{holding}
use Rattle.bean_holdings.proofs.BoundFacts.{at_8_small, one_posting_more, sum_fits}
use Rattle.bean_holdings.proofs.HeldFacts.{lot_more, no_lot_more, one_more}
use Rattle.bean_holdings.proofs.holdings.Holdings.post.Goals as goal

pub post-requires : goal.post-requires
post-requires c =
    let h = c.args.self.now in
    let p = c.args.posted.now in
    let n = at_8 p.units.number in
    sum_fits h.additions _ n n c.requires.few
    (count_small _ (holding h p.account) (key_of p) (c.requires.bounded.counts p.account))
    (at_8_small p.units.number) refl

pub returns-then-is_none-clause-held : goal.returns-then-is_none-clause-held
returns-then-is_none-clause-held c =
    let h = c.args.self.now in
    let p = c.args.posted.now in
    let none : is_some p.lot ≡ false = search rules in
    λ ps held. one_more ps p h _ held (λ a. no_lot_more p a (holding h a) none)

pub returns-then-is_none-clause-bounded : goal.returns-then-is_none-clause-bounded
returns-then-is_none-clause-bounded c =
    let h = c.args.self.now in
    let p = c.args.posted.now in
    let none : is_some p.lot ≡ false = search rules in
    one_posting_more p h _ refl (λ a. no_lot_more p a (holding h a) none) c.requires.bounded

pub returns-clause-held : goal.returns-clause-held
returns-clause-held c =
    let h = c.args.self.now in
    let p = c.args.posted.now in
    let some : is_some p.lot ≡ true = search rules in
    on_ok_weaker c.post.result
    (λ more ps held. one_more ps p h _ held (λ a. more a ∙ lot_more p a (holding h a) some))
    c.post.ensures

pub returns-clause-bounded : goal.returns-clause-bounded
returns-clause-bounded c =
    let h = c.args.self.now in
    let p = c.args.posted.now in
    let some : is_some p.lot ≡ true = search rules in
    on_ok_weaker c.post.result
    (λ more. one_posting_more p h _ refl (λ a. more a ∙ lot_more p a (holding h a) some)
    c.requires.bounded)
    c.post.ensures
