use Rattle.std.proofs.Common.{refl, sym, subst}
use Rattle.std.proofs.lemmas.Result.{IfOk-weaker}
use Rattle.bean_parser.specs.Block.{lines}
use Rattle.bean_parser.specs.Grammar.{takes_postings}
use Rattle.bean_parser.specs.Reading.{ReadsDated, ReadsLines}
use Rattle.bean_parser.proofs.LinesFacts.{body_read, lines_read}
use Rattle.bean_parser.proofs.block.dated_block.Goals as goal

pub returns-in-Ok-Some : goal.returns-in-Ok-Some
returns-in-Ok-Some c =
    let ls = lines c.args.under.now in
    IfOk-weaker c.dated.result _ _
    (λ found same.
    subst (ReadsDated c.args.line c.args.day c.args.kind ls) (sym same)
    (body_read c.args.line c.args.day c.args.kind ls c.in-Ok-Some.body _
    (subst (ReadsLines (takes_postings c.args.kind) ls) c.in-Ok-Some.field-0-is
    (lines_read _ _ ls _ c.takes_postings.ensures c.in-Ok-Some.ensures)) refl))
    c.dated.ensures

pub returns-in-Ok-None : goal.returns-in-Ok-None
returns-in-Ok-None c =
    let ls = lines c.args.under.now in
    subst (ReadsLines (takes_postings c.args.kind) ls) c.in-Ok-None.field-0-is
    (lines_read _ _ ls _ c.takes_postings.ensures c.in-Ok-None.ensures)
