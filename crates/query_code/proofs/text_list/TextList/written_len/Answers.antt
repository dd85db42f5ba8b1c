use Rattle.std.proofs.Common.{◌≡◌, ◌++◌, length, ap, ◌∙◌, arith, length-append}
use Rattle.query_code.specs.ByteForm.{all_written}
use Rattle.query_code.specs.TextForm.{text}
use Rattle.query_code.proofs.TextListFacts.{written_is}
use Rattle.query_code.proofs.text_list.TextList.written_len.Goals as goal

pub returns : goal.returns
returns c =
    let lent = c.self.inside.lent.now in
    let added = c.self.inside.added.items in
    let is : length (lent ++ added) ≡ length (all_written text c.args.self.now) =
    ap length (written_is c.self.inside.len _ c.self.inside.are_texts ∙ ap (all_written text) c.self.view_is) in
    let both = length-append lent added in
    omega (arith, is, both, c.len.ensures)
