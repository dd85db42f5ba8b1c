use Rattle.query_code.proofs.UpgradeFacts.{differ_in_version}
use Rattle.query_code.proofs.upgrading.upgraded_files_differ_in_version.Goals as goal

pub returns : goal.returns
returns c = differ_in_version
