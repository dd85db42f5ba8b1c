use Rattle.std.proofs.Common.{◌≡◌, [], ◌∷◌, ◌++◌, rules, ap, sym, subst, ◌∙◌}
use Rattle.bean_postings.proofs.WrittenPostingFacts.{entry_added, units_alike}
use Rattle.bean_postings.specs.Details.{with_entry}
use Rattle.bean_postings.specs.WrittenPosting.{IsInRange, IsSmall, details_in}
use Rattle.bean_postings.proofs.written_posting.WrittenPosting.push.Goals as goal

pub returns : goal.returns
returns c =
    let is = c.replace.ensures.value in
    let r = subst IsInRange (sym is) c.self.inside.in_range in
    let s = subst IsSmall (sym is) c.self.inside.small in
    let units = c.of-rest.ensures.units r s
    ∙ units_alike c.replace.result c.self.inside.kept is r s c.self.inside.in_range
    c.self.inside.small
    ∙ ap (λ p. p.units) c.self.view_is in
    let details = c.of-rest.ensures.details ∙ ap details_in is
    ∙ ap (λ p. p.details) c.self.view_is in
    let entries : c.push.new.self ≡ c.of-rest.result.details.metadata ++ c.args.entry ∷ [] =
    search rules in
    entry_added c.args.self.now c.args.entry _ _ _ (ap (λ x. x.units) c.in_ok-new.ensures ∙ units)
    (ap (λ p. p.account) c.self.view_is)
    (ap (λ x. x.details) c.in_ok-new.ensures
    ∙ ap (λ m. record c.of-rest.result.details { metadata = m }) entries
    ∙ ap (λ d. with_entry d c.args.entry) details)
