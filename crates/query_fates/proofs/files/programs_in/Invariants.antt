use Rattle.std.proofs.Common.{drop}
use Rattle.query_fates.proofs.BatchFileFacts.{AreSoFar}
use Rattle.query_fates.proofs.files.programs_in.Given as goal

abbrev pub invariant-loop-file : goal.invariant-loop-file
invariant-loop-file l = AreSoFar l.files (drop l.file-index l.files) l.programs.items
