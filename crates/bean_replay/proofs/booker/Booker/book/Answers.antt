use Rattle.std.proofs.Common.{◌+◌, ◌<◌, Ok, Err, ap, length, subst, ◌∙◌}
use Rattle.std.proofs.lemmas.Result.{IfOk-weaker}
use Rattle.bean_directives.specs.declared.transaction.Transaction.{Transaction}
use Rattle.limits.specs.declared.counts.TheConstants.{MOST_POSTINGS}
use Rattle.bean_transactions.proofs.LightFacts.{kept_light}
use Rattle.bean_transactions.specs.Outcome.{StopsAt}
use Rattle.bean_transactions.specs.Tried.{Tries}
use Rattle.bean_replay.specs.Stand.{setting_of}
use Rattle.bean_replay.proofs.TakeFacts.{reweighed, settled}
use Rattle.bean_replay.proofs.FullFacts.{full_kept}
use Rattle.bean_replay.proofs.booker.Booker.book.Goals as goal

pub keep-requires-clause-stands : goal.keep-requires-clause-stands
keep-requires-clause-stands c =
    let z = c.requires in record {
      method_of = z.method_of;
      past = z.past;
      stand = z.stand;
      is = reweighed z.method_of z.past z.stand c.args.self.now _ _ z.is;
      few = z.few;
    }

pub keep-requires-clause-light : goal.keep-requires-clause-light
keep-requires-clause-light c =
    let z = c.requires in
    let w = c.args.written.now in
    let s = setting_of z.method_of z.stand w in
    kept_light s w.transaction.postings c.in-Ok.tried.posted
    (subst (λ ps. Tries s ps (Ok c.in-Ok.tried.posted)) (c.as_slice-postings.ensures ∙ ap (λ (t : Transaction). t.postings) c.transaction.ensures)
    (c.in-Ok.ensures.tried s (settled z.method_of z.past z.stand w c.args.self.now _ _ c.day.ensures c.place.ensures z.is)))

pub returns-in-Ok-clause-standing : goal.returns-in-Ok-clause-standing
returns-in-Ok-clause-standing c = λ m past st is.
    let w = c.args.written.now in
    let s = setting_of m st w in
    let tries =
    subst (λ ps. Tries s ps (Ok c.in-Ok.tried.posted)) (c.as_slice-postings.ensures ∙ ap (λ (t : Transaction). t.postings) c.transaction.ensures)
    (c.in-Ok.ensures.tried s (settled m past st w c.args.self.now _ _ c.day.ensures c.place.ensures is)) in
    IfOk-weaker c.keep.result _ _ (λ booked behind. (Ok c.in-Ok.tried.posted, tries, behind))
    (c.keep.ensures.standing m past st (reweighed m past st c.args.self.now _ _ is))

pub returns-in-Err-Refused-clause-standing : goal.returns-in-Err-Refused-clause-standing
returns-in-Err-Refused-clause-standing c = λ m past st is.
    let w = c.args.written.now in
    let s = setting_of m st w in
    let told =
    c.in-Err-Refused.ensures.tried s (settled m past st w c.args.self.now _ _ c.day.ensures c.place.ensures is) in
    let tries =
    subst (λ ps. Tries s ps (Err c.in-Err-Refused.fault)) (c.as_slice-postings.ensures ∙ ap (λ (t : Transaction). t.postings) c.transaction.ensures)
    (subst (StopsAt (λ f. Tries s c.as_slice-postings.result.now (Err f))) c.in-Err-Refused.field-0-is told) in
    let stood =
    rw c.in-Err-Refused.field-0-is at
    (c.drop_with.ensures.standing m past st (reweighed m past st c.args.self.now _ _ is)) in
    IfOk-weaker c.drop_with.result _ _ (λ booked behind. (Err c.in-Err-Refused.fault, tries, behind))
    stood

pub returns-in-Ok-clause-full : goal.returns-in-Ok-clause-full
returns-in-Ok-clause-full c = λ is_full m past st is r tries.
    let w = c.args.written.now in
    let s = setting_of m st w in
    let own =
    subst (λ ps. Tries s ps (Ok c.in-Ok.tried.posted)) (c.as_slice-postings.ensures ∙ ap (λ (t : Transaction). t.postings) c.transaction.ensures)
    (c.in-Ok.ensures.tried s (settled m past st w c.args.self.now _ _ c.day.ensures c.place.ensures is)) in
    full_kept m past st w c.in-Ok.tried.posted r own tries
    (subst (λ n. MOST_POSTINGS < n + length c.in-Ok.tried.posted) is.count (c.keep.ensures.full is_full))
