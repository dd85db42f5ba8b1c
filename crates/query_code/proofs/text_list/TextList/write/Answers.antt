use Rattle.std.proofs.Common.{◌≡◌, ◌++◌, ap, ◌∙◌, append_assoc, arith}
use Rattle.std.proofs.lemmas.Grind.{common_steps}
use Rattle.query_code.specs.ByteForm.{all_written}
use Rattle.query_code.specs.TextForm.{text}
use Rattle.query_code.proofs.TextListFacts.{written_is}
use Rattle.query_code.proofs.text_list.TextList.write.Goals as goal

pub returns : goal.returns
returns c =
    let is : c.self.inside.lent.now ++ c.self.inside.added.items
    ≡ all_written text c.args.self.now =
    written_is c.self.inside.len _ c.self.inside.are_texts
    ∙ ap (all_written text) c.self.view_is in
    grind (arith, common_steps, append_assoc, is)
