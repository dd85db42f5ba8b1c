use Rattle.std.proofs.Common.{◌≡◌, Bool, true, List, None, Option, Some, Err, ap, length, reverse, subst, sym, ◌++◌, ◌∙◌}
use Rattle.std.proofs.lemmas.List.{length-map}
use Rattle.std.specs.Prelude.{IfSome}
use Rattle.bean_interp.specs.Balance.{is_balanced}
use Rattle.bean_interp.specs.Completion.{Completes}
use Rattle.bean_interp.specs.declared.leg.Leg.{Leg}
use Rattle.bean_postings.specs.declared.price.Price.TheVariants as price
use Rattle.bean_interp.specs.Residual.{AreInRange}
use Rattle.bean_interp.specs.Scales.{AreSet}
use Rattle.bean_interp.proofs.LastFacts.{lacking_last, stopped_before_last}
use Rattle.bean_postings.specs.declared.posting.Posting.{Posting}
use Rattle.bean_transactions.specs.Outcome.{StopsAt}
use Rattle.bean_transactions.specs.Plain.{AreAsWritten}
use Rattle.bean_transactions.specs.Tried.{IsKept, LacksOrIsWide, booked_leg, booked_legs, filled_at}
use Rattle.bean_transactions.specs.declared.setting.Head.{Head}
use Rattle.bean_transactions.proofs.LastFacts.{balanced_lacking, kept_lacking, many, same_front, same_last}
use Rattle.bean_transactions.proofs.LastFacts.{stopped_lacking}
use Rattle.bean_transactions.proofs.PlainFacts.{all_whole}
use Rattle.bean_transactions.proofs.lacking.try_lacking_last.Goals as goal

pub returns-in-Err-clause-tried : goal.returns-in-Err-clause-tried
returns-in-Err-clause-tried c = λ s is.
    let ps = c.args.postings.now in
    let front = c.in-Some.before.now in
    let last : Posting = c.in-Some.last.now in
    let qs = c.args.front.items in
    let parts = c.in-Some.ensures.cases.0 in
    let alike = sym parts ∙ c.requires.lacking.are in
    let are =
    subst (λ l. AreAsWritten (reverse l) qs)
    (sym (same_front front c.requires.lacking.front last c.requires.lacking.last alike))
    c.requires.lacking.written in
    let lacks = ap (λ (p : Posting). p.units)
    (same_last front c.requires.lacking.front last c.requires.lacking.last alike) ∙ c.requires.lacking.lacks in
    let all = lacking_last (booked_legs ps qs) in
    let stops =
    c.refusal_of.ensures all
    (subst (λ e. Completes all (Err e)) (sym c.completion_refusal.ensures)
    (stopped_before_last (booked_legs ps qs) (all_whole ps qs) c.in-Err.fault
    (λ same.
    subst (λ l. ¬ AreInRange (booked_legs ps l)) c.as_slice.ensures.value
    (c.in-Err.ensures.wide same)))) in
    stopped_lacking ps front last qs parts lacks are s c.refusal_of.result
    c.requires.inside
    (subst (λ n. StopsAt (LacksOrIsWide n all) c.refusal_of.result)
    (sym (ap (λ (h : Head). h.line) is)) stops)

pub returns-in-Ok-clause-tried : goal.returns-in-Ok-clause-tried
returns-in-Ok-clause-tried c = λ s is.
    let ps = c.args.postings.now in
    let front = c.in-Some.before.now in
    let last : Posting = c.in-Some.last.now in
    let qs = c.args.front.items in
    let parts = c.in-Some.ensures.cases.0 in
    let alike = sym parts ∙ c.requires.lacking.are in
    let are =
    subst (λ l. AreAsWritten (reverse l) qs)
    (sym (same_front front c.requires.lacking.front last c.requires.lacking.last alike))
    c.requires.lacking.written in
    let lacks = ap (λ (p : Posting). p.units)
    (same_last front c.requires.lacking.front last c.requires.lacking.last alike) ∙ c.requires.lacking.lacks in
    let set =
    subst (λ l. AreSet c.set.new.scales (booked_legs ps l)) c.as_slice.ensures.value
    c.in_default-set.ensures.set in
    let completes =
    c.in-Ok.ensures (booked_legs ps qs) (all_whole ps qs)
    (length-map qs (booked_leg ps) ∙ many ps front last qs parts lacks are) set in (
      c.requires.inside,
      subst (IsKept s ps)
          (sym (c.new.ensures ∙ c.in_ok-push_filled-in-Ok.ensures
          ∙ (λ i. qs
          ++ filled_at (c.as_slice-in-Ok.ensures i) (length front) (c.account-account.ensures i) (length front))))
          (kept_lacking ps front last qs parts lacks are s c.in-Ok.fills completes),
    )

pub returns-clause-tried : goal.returns-clause-tried
returns-clause-tried c = λ s is.
    let ps = c.args.postings.now in
    let front = c.in-Some.before.now in
    let last : Posting = c.in-Some.last.now in
    let qs = c.args.front.items in
    let parts = c.in-Some.ensures.cases.0 in
    let alike = sym parts ∙ c.requires.lacking.are in
    let are =
    subst (λ l. AreAsWritten (reverse l) qs)
    (sym (same_front front c.requires.lacking.front last c.requires.lacking.last alike))
    c.requires.lacking.written in
    let lacks = ap (λ (p : Posting). p.units)
    (same_last front c.requires.lacking.front last c.requires.lacking.last alike) ∙ c.requires.lacking.lacks in
    let all = lacking_last (booked_legs ps qs) in
    let set =
    subst (λ l. AreSet c.set.new.scales (booked_legs ps l)) c.as_slice.ensures.value
    c.in_default-set.ensures.set in
    let completes =
    c.in-Err-fill_last.ensures (booked_legs ps qs) (all_whole ps qs)
    (length-map qs (booked_leg ps) ∙ many ps front last qs parts lacks are) set in
    stopped_lacking ps front last qs parts lacks are s c.refusal_of-in-Err-fill_last.result
    c.requires.inside
    (subst (λ n. StopsAt (LacksOrIsWide n all) c.refusal_of-in-Err-fill_last.result)
    (sym (ap (λ (h : Head). h.line) is)) (c.refusal_of-in-Err-fill_last.ensures all completes))

-- what is known of the balance is so
known : (o : Option Bool) (P : Type 0) (legs : List Leg) → IfSome o (λ b. (b ≡ true) × P)
    → (P → is_balanced legs ≡ true) → IfSome o (λ b. b ≡ is_balanced legs)
known None P legs is even = tt
known (Some b) P legs is even = is.0 ∙ sym (even is.1)

pub returns-in-Ok-clause-balances : goal.returns-in-Ok-clause-balances
returns-in-Ok-clause-balances c =
    let ps = c.args.postings.now in
    let front = c.in-Some.before.now in
    let last : Posting = c.in-Some.last.now in
    let qs = c.args.front.items in
    let parts = c.in-Some.ensures.cases.0 in
    let alike = sym parts ∙ c.requires.lacking.are in
    let are =
    subst (λ l. AreAsWritten (reverse l) qs)
    (sym (same_front front c.requires.lacking.front last c.requires.lacking.last alike))
    c.requires.lacking.written in
    let lacks = ap (λ (p : Posting). p.units)
    (same_last front c.requires.lacking.front last c.requires.lacking.last alike) ∙ c.requires.lacking.lacks in
    let set =
    subst (λ l. AreSet c.set.new.scales (booked_legs ps l)) c.as_slice.ensures.value
    c.in_default-set.ensures.set in
    let completes =
    c.in-Ok.ensures (booked_legs ps qs) (all_whole ps qs)
    (length-map qs (booked_leg ps) ∙ many ps front last qs parts lacks are) set in
    known c.evened_by.result (last.details.price ≡ price.Absent) (booked_legs ps c.new.result)
    c.evened_by.ensures
    (λ priceless.
    ap (λ l. is_balanced (booked_legs ps l))
    (c.new.ensures ∙ c.in_ok-push_filled-in-Ok.ensures
    ∙ (λ i. qs
    ++ filled_at (c.as_slice-in-Ok.ensures i) (length front) (c.account-account.ensures i) (length front)))
    ∙ balanced_lacking ps front last qs parts lacks are c.in-Ok.fills completes.2 priceless)
