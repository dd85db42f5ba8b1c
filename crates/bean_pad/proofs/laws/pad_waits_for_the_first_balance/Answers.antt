use Rattle.bean_pad.proofs.WaitingFacts.{waiting_is_first}
use Rattle.bean_pad.proofs.laws.pad_waits_for_the_first_balance.Goals as goal

pub returns : goal.returns
returns c = waiting_is_first
