use Rattle.bean_replay.proofs.OneBooking as lemmas
use Rattle.bean_replay.proofs.laws.one_booking.Goals as goal

pub returns : goal.returns
returns c = lemmas.one_booking
