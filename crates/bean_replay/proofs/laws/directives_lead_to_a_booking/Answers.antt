use Rattle.bean_replay.proofs.EachBooking.{none_is_left}
use Rattle.bean_replay.proofs.laws.directives_lead_to_a_booking.Goals as goal

pub returns : goal.returns
returns c = none_is_left
