use Rattle.std.proofs.Common.{◌≡◌, ◌≤◌, ◌++◌, All, List, ap, arith, drop, length, subst, sym, take, ◌∙◌}
use Rattle.std.proofs.lemmas.List.Elements.{All-drop, All-take}
use Rattle.posting_table.specs.Decimals.{decimals_of}
use Rattle.query_answer.proofs.GivenUpFacts.{behind_given_up, count_given_up}
use Rattle.query_values.specs.declared.value.Value.{Value}
use Rattle.table_printer.specs.Growing.{grown}
use Rattle.table_printer.specs.Printing.{IsPrinted, MayLeaveOpen, columns_of}
use Rattle.query_tables.proofs.PartFacts.{behind_part, may_be_part, part_is, part_more}
use Rattle.query_tables.proofs.giving_up.print_parts.Goals as goal

pub push-requires-clause-even : goal.push-requires-clause-even
push-requires-clause-even c =
    let all = c.args.rows.now in
    let first = c.loop-first.first in
    let end = c.min-end.result in
    let before = c.loop-first.invariant in
    let P : List Value → Type 0 = λ row. length row ≡ columns_of c.loop-first.printer in
    let test = c.loop-first-test.true in
    let far = c.saturating_add.ensures in
    let least = c.min-end.ensures in
    let up : first ≤ end = omega (arith, test, c.len.ensures, far, c.len-in-loop-first.ensures, least) in
    subst (All P) (sym (part_is c.loop-first.rows all first end before.behind up))
    (All-drop P first (take end all) (All-take P end all
    (subst (λ n. All (λ row. length row ≡ n) all) (sym before.columns) c.requires.even)))

pub push-requires-clause-left : goal.push-requires-clause-left
push-requires-clause-left c =
    let all = c.args.rows.now in
    let first = c.loop-first.first in
    let end = c.min-end.result in
    let before = c.loop-first.invariant in
    let p = c.loop-first.printer in
    let test = c.loop-first-test.true in
    let far = c.saturating_add.ensures in
    let least = c.min-end.ensures in
    let up : first ≤ end = omega (arith, test, c.len.ensures, far, c.len-in-loop-first.ensures, least) in
    subst (MayLeaveOpen p) (sym (part_is c.loop-first.rows all first end before.behind up))
    (may_be_part c.args.names.now all (take first all) (decimals_of c.args.display.now) p.own
    p.headings.items (grown p.lines) first end before.printed)

pub loop-first-preserved : goal.loop-first-preserved
loop-first-preserved c =
    let all = c.args.rows.now in
    let first = c.loop-first.first in
    let end = c.min-end.result in
    let before = c.loop-first.invariant in
    let names = c.args.names.now in
    let d = decimals_of c.args.display.now in
    let test = c.loop-first-test.true in
    let far = c.saturating_add.ensures in
    let least = c.min-end.ensures in
    let up : first ≤ end = omega (arith, test, c.len.ensures, far, c.len-in-loop-first.ensures, least) in
    record {
      inside = omega (arith, c.min-end.ensures, c.len-in-loop-first.ensures, before.count);
      count = ap length c.give_up.ensures ∙ count_given_up first end c.loop-first.rows ∙ before.count;
      behind = ap (drop end) c.give_up.ensures ∙ behind_given_up first end c.loop-first.rows up
          ∙ behind_part c.loop-first.rows all first end before.behind up;
      columns = c.in_ok-push.ensures.columns ∙ before.columns;
      printed = subst (λ rows. IsPrinted names all rows d c.push.new.self)
          (ap (λ part. take first all ++ part) (part_is c.loop-first.rows all first end before.behind up)
          ∙ part_more all first end up)
          (c.in_ok-push.ensures.printed names all (take first all) before.printed);
    }
