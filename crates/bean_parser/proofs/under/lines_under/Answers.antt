use Rattle.std.proofs.Common.{subst}
use Rattle.bean_parser.specs.Block.{line_of, lines}
use Rattle.bean_parser.specs.Reading.{ReadsLine}
use Rattle.bean_parser.proofs.LinesFacts.{lines_begin, line_more, line_none, lines_end, no_kind}
use Rattle.bean_parser.proofs.under.lines_under.Goals as goal

pub loop-line-init : goal.loop-line-init
loop-line-init c = lines_begin _ (lines c.args.under.now) _ c.new-body.ensures

pub loop-line-preserved : goal.loop-line-preserved
loop-line-preserved c =
    let is = subst (ReadsLine c.args.in_transaction (line_of c.in-Some.line.now)) c.in-Some-2.is
    c.in_ok-kind.ensures in
    line_more _ _ c.loop-line.rest.tokens.now c.in-Some.line.now c.in-Some.after.now _ _ _
    c.loop-line.invariant c.in-Some.ensures.front is c.in_ok-add.ensures

pub returns-in_default-2 : goal.returns-in_default-2
returns-in_default-2 c =
    line_none _ _ c.loop-line.rest.tokens.now c.in-Some.line.now c.in-Some.after.now _
    c.loop-line.invariant c.in-Some.ensures.front
    (no_kind _ _ _ c.in_default-2.not-Some c.in_ok-kind.ensures)

pub returns : goal.returns
returns c = lines_end _ _ _ _ c.loop-line.invariant c.in_default.ensures.front
