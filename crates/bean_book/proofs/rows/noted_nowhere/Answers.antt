use Rattle.std.proofs.Common.{length, ap, arith, sym, ◌∙◌}
use Rattle.std.proofs.lemmas.Option.{slice_get_past}
use Rattle.bean_book.specs.Rows.{items_in}
use Rattle.bean_book.proofs.rows.noted_nowhere.Goals as goal

pub returns : goal.returns
returns c = λ details.
    let ps = c.args.postings.now in
    c.empty.ensures ∙ sym (ap (items_in details) (slice_get_past ps (length ps) (omega arith)))
