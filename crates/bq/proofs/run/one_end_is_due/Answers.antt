use Rattle.bq.proofs.OneEnd.{have_one_end}
use Rattle.bq.proofs.run.one_end_is_due.Goals as goal

pub returns : goal.returns
returns c = have_one_end
