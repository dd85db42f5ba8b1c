use Rattle.query_verifier.proofs.FileFacts.{all_have_members}
use Rattle.query_verifier.proofs.checking.check_file.Goals as goal

pub verified-requires : goal.verified-requires
verified-requires c = all_have_members c.in-Ok.program.parts c.in-Ok.program.has_file
