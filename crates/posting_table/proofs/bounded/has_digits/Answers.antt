use Rattle.std.proofs.Common.{◌∙◌, sym}
use Rattle.std.proofs.lemmas.Bool.{le-leb}
use Rattle.posting_table.proofs.FitFacts.{many_digits}
use Rattle.posting_table.proofs.bounded.has_digits.Goals as goal

pub returns-then-digits-ge38 : goal.returns-then-digits-ge38
returns-then-digits-ge38 c =
    let many = c.if-digits-ge38.true in
    le-leb 38 c.args.digits many ∙ sym (many_digits c.args.digits c.args.number c.requires many)
