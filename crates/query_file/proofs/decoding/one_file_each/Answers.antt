use Rattle.std.proofs.Common.{sym, ◌∙◌}
use Rattle.query_code.proofs.ByteFormFacts.{ok_is}
use Rattle.query_code.proofs.QueryFileFacts.{file_is}
use Rattle.query_file.proofs.decoding.one_file_each.Goals as goal

pub returns-clause-files : goal.returns-clause-files
returns-clause-files c = λ program a b is also. is.written ∙ sym also.written

pub returns-clause-programs : goal.returns-clause-programs
returns-clause-programs c =
    λ bytes a b is also. ok_is a b (sym (file_is bytes a is) ∙ file_is bytes b also)
