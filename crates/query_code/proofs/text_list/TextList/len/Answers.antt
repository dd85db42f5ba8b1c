use Rattle.std.proofs.Common.{length, sym, ap, ◌∙◌}
use Rattle.query_code.proofs.TextListFacts.{number_is}
use Rattle.query_code.proofs.text_list.TextList.len.Goals as goal

pub returns : goal.returns
returns c =
    sym (number_is c.self.inside.len _ c.self.inside.are_texts) ∙ ap length c.self.view_is
