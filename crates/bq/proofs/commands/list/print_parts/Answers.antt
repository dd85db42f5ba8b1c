use Rattle.std.proofs.Common.{◌≡◌, ◌++◌, [], append_assoc, length, map, refl, subst, sym, ap, ◌∙◌}
use Rattle.std.proofs.lemmas.List.{append-nil, map-append}
use Rattle.std.proofs.lemmas.List.Elements.{All-map}
use Rattle.bq.specs.List.{headers, shown_row}
use Rattle.posting_table.specs.Decimals.{decimals_of}
use Rattle.table_printer.specs.Printing.{IsPrinted, columns_of}
use Rattle.bq.proofs.ShownFacts.{none_in_the_last}
use Rattle.bq.proofs.commands.list.print_parts.Goals as goal

pub loop-part-init : goal.loop-part-init
loop-part-init c = record {
  columns = c.requires;
  so_far = (
    [],
    refl,
    λ all done is. subst
        (λ rows. IsPrinted headers all (map shown_row rows) (decimals_of c.args.display.now)
        c.args.printer.now) (sym (append-nil done)) is,
  );
}

pub push-requires-clause-even : goal.push-requires-clause-even
push-requires-clause-even c =
    All-map (λ row. length row ≡ columns_of c.loop-part.printer) shown_row c.rows.result.now
    (λ k d within. sym c.loop-part.invariant.columns)

pub push-requires-clause-left : goal.push-requires-clause-left
push-requires-clause-left c =
    none_in_the_last c.loop-part.printer.own (length c.loop-part.printer.headings.items)
    c.rows.result.now c.loop-part.invariant.columns

pub loop-part-preserved : goal.loop-part-preserved
loop-part-preserved c =
    let d = decimals_of c.args.display.now in
    let before = c.loop-part.invariant.so_far in
    let part = c.in-Some.part in
    let after = c.next.new.self in record {
      columns = c.in_ok-push.ensures.columns ∙ c.loop-part.invariant.columns;
      so_far = (
        before.0 ++ part,
        before.1 ∙ ap (λ l. before.0 ++ l) c.in-Some.ensures.some
            ∙ sym (append_assoc before.0 part after),
        λ all done is.
            subst (λ rows. IsPrinted headers all rows d c.push.new.self)
            (ap (λ rows. map shown_row (done ++ before.0) ++ map shown_row rows) c.rows.ensures
            ∙ sym (map-append shown_row (done ++ before.0) part)
            ∙ ap (map shown_row) (append_assoc done before.0 part))
            (c.in_ok-push.ensures.printed headers all (map shown_row (done ++ before.0))
            (before.2 all done is)),
      );
    }

pub returns : goal.returns
returns c = λ all done is.
    let before = c.loop-part.invariant.so_far in
    let none = (c.in_default.ensures.none refl).0 in
    subst
    (λ rows. IsPrinted headers all (map shown_row (done ++ rows)) (decimals_of c.args.display.now)
    c.loop-part.printer)
    (sym (before.1 ∙ ap (λ l. before.0 ++ l) none ∙ append-nil before.0))
    (before.2 all done is)
