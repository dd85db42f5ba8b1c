use Rattle.std.proofs.Common.{◌≡◌, ◌∙◌, ap, refl, sym, subst, Some, None}
use Rattle.std.proofs.lemmas.Option.{slice_get-get_or, slice_get_past}
use Rattle.bean_postings.specs.declared.price.Price.TheVariants.{Absent}
use Rattle.bean_transactions.specs.Tried.{whole_at, number_in}
use Rattle.bean_transactions.proofs.LegFacts.{whole_by}
use Rattle.bean_transactions.proofs.legs.whole.Goals as goal

pub returns-in-Some : goal.returns-in-Some
returns-in-Some c =
    let p = c.args.posted.now in
    let w = c.in-Some.written.now in
    let at =
    slice_get-get_or c.args.postings.now p.written w c.in-Some.ensures.lookup.3.0
    ∙ ap Some (sym c.in-Some.ensures.lookup.1) in
    let worth = c.worth_of.ensures w.details.price c.worth_without.ensures in
    subst (λ o. c.whole_of.result ≡ whole_at o p) (sym at)
    (whole_by c.whole_of.result c.number_in.result (number_in w.units) w.details.price p
    (c.number_in.ensures ∙ ap number_in c.units.ensures) c.whole_of.ensures.units c.whole_of.ensures.decimals
    (c.whole_of.ensures.worth ∙ worth))

pub returns-in-None : goal.returns-in-None
returns-in-None c =
    let p = c.args.posted.now in
    let at = slice_get_past c.args.postings.now p.written c.in-None.ensures.lookup.3 in
    subst (λ o. c.whole_of-in-None.result ≡ whole_at o p) (sym at)
    (whole_by c.whole_of-in-None.result None None Absent p refl c.whole_of-in-None.ensures.units
    c.whole_of-in-None.ensures.decimals
    (c.whole_of-in-None.ensures.worth ∙ c.worth_of-in-None.ensures Absent refl))
