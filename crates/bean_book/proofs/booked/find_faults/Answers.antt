use Rattle.std.proofs.Common.{◌≤◌, ◌∙◌, Err, ap, arith, length, reverse, subst, sym}
use Rattle.std.specs.List.{flat_map}
use Rattle.bean_accounts.specs.Log.{found as found_in, with_found}
use Rattle.limits.specs.declared.counts.TheConstants.{MOST_POSTINGS}
use Rattle.bean_pad.specs.Note.{noted_pads}
use Rattle.bean_replay.proofs.PadFacts.{as_many}
use Rattle.bean_replay.specs.Booked.{bookings_of, faults_of, method_in_ledger}
use Rattle.bean_book.specs.Reported.{reported}
use Rattle.bean_book.specs.Rows.{rows_of_pad}
use Rattle.bean_book.specs.declared.details.Details.TheVariants.{All}
use Rattle.bean_book.proofs.BookFacts.{too_many_kept, too_many_rows}
use Rattle.bean_book.proofs.FoundFacts.{found, none_found}
use Rattle.bean_book.proofs.LedgerFacts.{refused}
use Rattle.bean_book.proofs.TakenFacts.{all_count}
use Rattle.bean_book.proofs.booked.find_faults.Goals as goal

pub returns-in-Err : goal.returns-in-Err
returns-in-Err c =
    none_found c.args.loaded c.in-Err.fault
    (too_many_kept All c.args.loaded c.in-Err.fault
    (λ fault. c.in-Err.ensures.full (ap Err fault)))

pub count_pads-requires : goal.count_pads-requires
count_pads-requires c =
    let b = c.in-Ok.ensures.booked in subst (λ n. n ≤ MOST_POSTINGS) (sym b.finished.taken) b.few

pub returns-in-Err-count_pads : goal.returns-in-Err-count_pads
returns-in-Err-count_pads c =
    let l = c.args.loaded in
    let b = c.in-Ok.ensures.booked in
    let fault = c.in-Err-count_pads.fault in
    let pads =
    ap (λ ps. length (flat_map (rows_of_pad All) ps)) (c.as_slice.ensures ∙ b.finished.pads_are) in
    let all =
    all_count All b.stand.drafts (noted_pads b.stand.steps)
    (as_many (method_in_ledger l) (reverse l.directives) b.stand b.leads) in
    let kept = b.finished.taken in
    none_found l fault
    (too_many_rows All l b.stand b.leads fault
    (refused All (bookings_of b.stand) fault (λ is.
    let full = c.in-Err-count_pads.ensures.full (ap Err is) in omega (arith, full, pads, all, kept))))

pub returns : goal.returns
returns c =
    let l = c.args.loaded in
    let b = c.in-Ok.ensures.booked in
    let pads =
    ap (λ ps. length (flat_map (rows_of_pad All) ps)) (c.as_slice.ensures ∙ b.finished.pads_are) in
    let all =
    all_count All b.stand.drafts (noted_pads b.stand.steps)
    (as_many (method_in_ledger l) (reverse l.directives) b.stand b.leads) in
    let kept = b.finished.taken in
    let sum = c.in-Ok-count_pads.ensures.sum in
    let few = c.in-Ok-count_pads.ensures.few in
    found l b.stand b.leads (omega (arith, sum, few, pads, all, kept)) c.new.result
    (c.new.ensures ∙ c.in_ok-report.ensures
    ∙ ap reported (c.into_vec-faults.ensures ∙ c.into_found.ensures ∙ ap found_in (b.finished.faults_are ∙ ap (with_found (faults_of l b.stand)) c.new-log.ensures)))
