use Rattle.std.proofs.Common.{ap, refl, subst, sym, Err}
use Rattle.bean_book.specs.Booked.{Books}
use Rattle.bean_book.specs.Taken.{IsLedgerSoFar}
use Rattle.bean_book.proofs.BookFacts.{too_many_kept}
use Rattle.bean_book.proofs.booked.book_at.Goals as goal

pub book_directives-requires : goal.book_directives-requires
book_directives-requires g c κs = ((refl, tt), c.in_ok-rows.ensures g.L.Level.level)

pub returns-in-Err : goal.returns-in-Err
returns-in-Err g c =
    too_many_kept g.L.Level.level c.args.loaded c.in-Err.fault
    (λ fault. c.in-Err.ensures.full (ap Err fault))

pub returns : goal.returns
returns g c =
    let b = c.in-Ok.ensures.booked in
    subst (λ d. Books d c.args.loaded c.finish.result) c.details-details.ensures
    (c.finish.ensures c.args.loaded
    (record {
      stand = b.stand;
      leads = b.leads;
      few = b.few;
      finished = record {
        taken = subst (λ d. IsLedgerSoFar d b.stand.drafts c.in-Ok.booked.bookings.rows)
            (sym c.details-details.ensures) b.finished.taken;
        pads_are = b.finished.pads_are;
        faults_are = b.finished.faults_are;
      };
    }))
