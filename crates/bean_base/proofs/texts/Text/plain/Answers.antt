use Rattle.std.proofs.Common.{rules}
use Rattle.bean_base.proofs.TextFacts.{read_plain}
use Rattle.bean_base.proofs.texts.Text.plain.Goals as goal

pub returns-else-has_escape : goal.returns-else-has_escape
returns-else-has_escape c = let t = read_plain c.self.inside.written.now in search rules
