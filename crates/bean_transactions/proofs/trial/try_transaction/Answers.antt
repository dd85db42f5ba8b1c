use Rattle.std.proofs.Common.{◌≡◌, ◌≤◌, ◌^◌, ap, arith, drop, length, subst, sym, ◌∙◌}
use Rattle.std.proofs.lemmas.List.{length-map}
use Rattle.bean_transactions.specs.Plain.{IsLackingBehind}
use Rattle.bean_transactions.specs.Tried.{IsKept, booked_leg, booked_legs}
use Rattle.bean_transactions.proofs.BareFacts.{all_bare, lacking_last}
use Rattle.bean_transactions.proofs.LightFacts.{in_range}
use Rattle.bean_transactions.proofs.PlainFacts.{kept_as_written}
use Rattle.bean_transactions.proofs.trial.try_transaction.Goals as goal

pub returns-then-len-le-FEW-clause-tried : goal.returns-then-len-le-FEW-clause-tried
returns-then-len-le-FEW-clause-tried c = λ s is.
    let ps = c.args.postings.now in
    let qs = c.in_ok-posted.posted.items in
    let front = c.in_ok-posted.ensures in
    let many : length qs ≡ length ps = omega arith in
    let all = all_bare ps qs front many in
    let same = length-map qs (booked_leg ps) in
    let few : length (booked_legs ps qs) ≤ 10 ^ 9 = omega (arith, same) in (
      all.1,
      subst (IsKept s ps) (sym c.new.ensures)
          (kept_as_written s ps qs all.0 (in_range (booked_legs ps qs) front.light few)),
    )

pub returns-then-are_plain-clause-tried : goal.returns-then-are_plain-clause-tried
returns-then-are_plain-clause-tried c = λ s is. c.try_plain.ensures.tried s is.head_is

pub try_lacking_last-requires-clause-lacking : goal.try_lacking_last-requires-clause-lacking
try_lacking_last-requires-clause-lacking c =
    let ps = c.args.postings.now in
    let posted = c.in_ok-posted.posted in
    let between = c.in-Some.front.now in
    let rest_is = c.split_at.ensures.back ∙ ap (λ n. drop n ps) (c.len.ensures ∙ posted.ok.0) in
    lacking_last ps posted.items c.in_ok-posted.ensures between c.in_ok-posted-3.posted.items
    (subst (IsLackingBehind between) rest_is c.in-Some.ensures) c.in_ok-posted-3.ensures

pub returns-in-Some-clause-tried : goal.returns-in-Some-clause-tried
returns-in-Some-clause-tried c = λ s is. c.try_lacking_last.ensures.tried s is.head_is
