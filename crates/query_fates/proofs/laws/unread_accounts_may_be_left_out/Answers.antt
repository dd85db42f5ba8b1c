use Rattle.query_fates.proofs.UnreadFacts.{fates_alike, files_alike}
use Rattle.query_fates.proofs.laws.unread_accounts_may_be_left_out.Goals as goal

pub returns-clause-programs : goal.returns-clause-programs
returns-clause-programs c = fates_alike

pub returns-clause-files : goal.returns-clause-files
returns-clause-files c = files_alike
