use Rattle.std.proofs.Common.{◌≡◌, ◌++◌, length, length-append, drop, map, sym, ap, ◌∙◌, arith}
use Rattle.std.proofs.lemmas.List.{append-nil}
use Rattle.posting_table.specs.Decimals.{decimals_of}
use Rattle.table_printer.specs.Heading.{width_of}
use Rattle.table_printer.specs.Line.{front_text}
use Rattle.table_printer.proofs.FrontFacts.{kept_front}
use Rattle.table_printer.proofs.LayoutFacts.{behind_of}
use Rattle.table_printer.proofs.fronts.push_new_front.Goals as goal

pub new-requires : goal.new-requires
new-requires g c =
    let out = c.args.out.now.items in
    let front =
    front_text (decimals_of c.args.display.now) (map width_of c.args.headings.now) c.args.count
    (g.T.Rows.values c.args.row.now) in
    let whole : c.push_cells.new.out.items ≡ out ++ front =
    c.in_ok-push_cells.ensures out (sym (append-nil out)) in
    let long = ap length (c.deref.ensures.value ∙ whole) in
    omega (arith, long, length-append out front, c.len-start.ensures, c.args.out.now.ok)

pub returns-clause-text : goal.returns-clause-text
returns-clause-text g c =
    let out = c.args.out.now.items in
    c.in_ok-push_cells.ensures out (sym (append-nil out))

pub returns-clause-kept : goal.returns-clause-kept
returns-clause-kept g c =
    let d = decimals_of c.args.display.now in
    let ws = map width_of c.args.headings.now in
    let values = g.T.Rows.values in
    let out = c.args.out.now.items in
    let row = c.args.row.now in
    let front = front_text d ws c.args.count (values row) in
    let whole : c.push_cells.new.out.items ≡ out ++ front =
    c.in_ok-push_cells.ensures out (sym (append-nil out)) in
    let start : c.len-start.result ≡ length out = omega (arith, c.len-start.ensures, c.args.out.now.ok) in
    kept_front values d ws c.args.count row (drop c.len-start.result c.deref.result.now) c.new.result
    c.new.ensures.row c.new.ensures.few c.new.ensures.text
    ((λ i. drop (start i) ((c.deref.ensures.value ∙ whole) i)) ∙ behind_of out front)
