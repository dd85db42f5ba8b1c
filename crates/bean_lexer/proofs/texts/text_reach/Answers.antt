use Rattle.std.proofs.Common.{◌≡◌, ◌+◌, ◌<◌, ◌&&◌, length, get_or, arith, sym, subst}
use Rattle.bean_lexer.proofs.TextFacts.{ReadsText, text_starts, text_goes_on, text_escapes}
use Rattle.bean_lexer.proofs.TextFacts.{not_plain, is_backslash, closes, unclosed_at_end}
use Rattle.bean_lexer.proofs.TextFacts.{unclosed_at_backslash, after_quote}
use Rattle.bean_lexer.proofs.texts.text_reach.Goals as goal

pub pieces-init : goal.pieces-init
pieces-init c = text_starts c.args.bytes.now c.requires.some c.requires.quote

pub pieces-preserved : goal.pieces-preserved
pieces-preserved c =
    let bs = c.args.bytes.now in
    let e = c.end_of_run-end.result in
    let inside = c.pieces.invariant.inside in
    let run = c.end_of_run-end.ensures.run in
    let within = c.end_of_run-end.ensures.inside in
    let low : e < length bs = omega arith in
    let slash : get_or bs e 0 ≡ 92 =
    is_backslash (get_or bs e 0) (not_plain bs c.pieces.len e run inside low)
    c.if-bytes-end-eq34.false in
    subst (λ t. ReadsText bs (e + 2) (c.pieces.escapes_known && t))
    (sym c.is_escape-escapes_known.ensures)
    (text_escapes bs e c.pieces.escapes_known (omega arith) slash
    (text_goes_on bs c.pieces.len e c.pieces.escapes_known run c.pieces.invariant))

pub returns-then-end-bytes-clause-len : goal.returns-then-end-bytes-clause-len
returns-then-end-bytes-clause-len c =
    (unclosed_at_end c.args.bytes.now c.end_of_run-end.result c.pieces.escapes_known
    c.if-end-bytes.true
    (text_goes_on c.args.bytes.now c.pieces.len c.end_of_run-end.result c.pieces.escapes_known
    c.end_of_run-end.ensures.run c.pieces.invariant)).0

pub returns-then-end-bytes-clause-is_text : goal.returns-then-end-bytes-clause-is_text
returns-then-end-bytes-clause-is_text c =
    sym (unclosed_at_end c.args.bytes.now c.end_of_run-end.result c.pieces.escapes_known
    c.if-end-bytes.true
    (text_goes_on c.args.bytes.now c.pieces.len c.end_of_run-end.result c.pieces.escapes_known
    c.end_of_run-end.ensures.run c.pieces.invariant)).1

pub returns-then-bytes-end-eq34-clause-len : goal.returns-then-bytes-end-eq34-clause-len
returns-then-bytes-end-eq34-clause-len c =
    let within = c.end_of_run-end.ensures.inside in
    (closes c.args.bytes.now c.end_of_run-end.result c.pieces.escapes_known (omega arith)
    c.if-bytes-end-eq34.true
    (text_goes_on c.args.bytes.now c.pieces.len c.end_of_run-end.result c.pieces.escapes_known
    c.end_of_run-end.ensures.run c.pieces.invariant)).0

pub returns-then-bytes-end-eq34-clause-is_text : goal.returns-then-bytes-end-eq34-clause-is_text
returns-then-bytes-end-eq34-clause-is_text c =
    let within = c.end_of_run-end.ensures.inside in
    (closes c.args.bytes.now c.end_of_run-end.result c.pieces.escapes_known (omega arith)
    c.if-bytes-end-eq34.true
    (text_goes_on c.args.bytes.now c.pieces.len c.end_of_run-end.result c.pieces.escapes_known
    c.end_of_run-end.ensures.run c.pieces.invariant)).1

pub returns-then-bytes-end-eq34-clause-boundary : goal.returns-then-bytes-end-eq34-clause-boundary
returns-then-bytes-end-eq34-clause-boundary c =
    let within = c.end_of_run-end.ensures.inside in
    after_quote c.args.bytes.now c.end_of_run-end.result (omega arith) c.if-bytes-end-eq34.true

pub returns-then-end-bytes-2-clause-len : goal.returns-then-end-bytes-2-clause-len
returns-then-end-bytes-2-clause-len c =
    let bs = c.args.bytes.now in
    let e = c.end_of_run-end.result in
    let inside = c.pieces.invariant.inside in
    let run = c.end_of_run-end.ensures.run in
    let slash : get_or bs e 0 ≡ 92 =
    is_backslash (get_or bs e 0) (not_plain bs c.pieces.len e run inside (omega arith))
    c.if-bytes-end-eq34.false in
    (unclosed_at_backslash bs e c.pieces.escapes_known c.if-end-bytes-2.true slash
    (text_goes_on bs c.pieces.len e c.pieces.escapes_known run c.pieces.invariant)).0

pub returns-then-end-bytes-2-clause-is_text : goal.returns-then-end-bytes-2-clause-is_text
returns-then-end-bytes-2-clause-is_text c =
    let bs = c.args.bytes.now in
    let e = c.end_of_run-end.result in
    let inside = c.pieces.invariant.inside in
    let run = c.end_of_run-end.ensures.run in
    let slash : get_or bs e 0 ≡ 92 =
    is_backslash (get_or bs e 0) (not_plain bs c.pieces.len e run inside (omega arith))
    c.if-bytes-end-eq34.false in
    sym (unclosed_at_backslash bs e c.pieces.escapes_known c.if-end-bytes-2.true slash
    (text_goes_on bs c.pieces.len e c.pieces.escapes_known run c.pieces.invariant)).1
