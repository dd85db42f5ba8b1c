use Rattle.std.proofs.Common.{sym}
use Rattle.bean_lexer.proofs.OneLineFacts.{none_by_first}
use Rattle.bean_lexer.proofs.found.on_one_line.Goals as goal

pub returns-clause-feeds : goal.returns-clause-feeds
returns-clause-feeds c =
    sym (none_by_first c.args.bytes.now c.args.found.kind c.args.found.len c.requires.some
    c.requires.first c.requires.token)
