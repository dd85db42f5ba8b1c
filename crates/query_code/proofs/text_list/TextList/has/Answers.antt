use Rattle.std.proofs.Common.{◌≡◌, ◌∙◌, ℕ, ap, subst}
use Rattle.query_code.specs.TextForm.{AreTexts, texts_in}
use Rattle.query_code.proofs.TextListSearch.{has_text, in_front, in_behind}
use Rattle.query_code.proofs.text_list.TextList.has.Goals as goal

pub returns-then-is_written_in : goal.returns-then-is_written_in
returns-then-is_written_in c = c.if-is_written_in.true
    ∙ in_front c.args.sought.now c.self.inside.len c.self.inside.lent.now c.self.inside.added.items
    c.self.inside.are_two_parts c.is_written_in.result c.is_written_in.ensures
    c.if-is_written_in.true
    ∙ ap (has_text c.args.sought.now) c.self.view_is

pub returns-else-is_written_in : goal.returns-else-is_written_in
returns-else-is_written_in c =
    in_behind c.args.sought.now c.self.inside.len c.self.inside.lent.now c.self.inside.added.items
    c.self.inside.are_two_parts c.is_written_in.result c.is_written_in.ensures
    c.if-is_written_in.false
    c.is_written_in-else-is_written_in.result
    (subst (λ bs. (m : ℕ) → AreTexts m bs
    → c.is_written_in-else-is_written_in.result ≡ has_text c.args.sought.now (texts_in m bs))
    c.as_slice.ensures.value c.is_written_in-else-is_written_in.ensures)
    ∙ ap (has_text c.args.sought.now) c.self.view_is
