use Rattle.std.proofs.Common.{ap, reverse, sym, ◌∙◌}
use Rattle.bean_replay.proofs.OneBooking.{one_stand}
use Rattle.bean_replay.specs.Booked.{bookings_of, faults_of, method_in_ledger}
use Rattle.bean_book.specs.Booked.{decimals_from, rows_of_all, written_in_all}
use Rattle.bean_book.specs.Reported.{reported}
use Rattle.bean_book.proofs.laws.one_book.Goals as goal

pub returns : goal.returns
returns c = λ details l a b h g.
    let same =
    one_stand (method_in_ledger l) (reverse l.directives) h.stand g.stand h.leads g.leads in
    record {
      rows = h.ledger.rows ∙ ap (λ st. rows_of_all details (bookings_of st)) same ∙ sym g.ledger.rows;
      decimals = λ currency. h.ledger.decimals currency
          ∙ ap (λ st. decimals_from 0 currency (written_in_all (bookings_of st))) same
          ∙ sym (g.ledger.decimals currency);
      faults = h.faults ∙ ap (λ st. reported (faults_of l st)) same ∙ sym g.faults;
    }
