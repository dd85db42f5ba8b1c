use Rattle.std.proofs.Common.{ℕ, ℤ, ◌+◌, ◌<◌, List, ◌++◌, length, append_assoc, arith, rules, subst, sym, ap, take, ◌∙◌}
use Rattle.std.proofs.Common.{of_z, to_z}
use Rattle.std.specs.Int.{w128}
use Rattle.std.specs.Int.RustNames.{FitsSigned}
use Rattle.std.proofs.lemmas.Int.{to_z-of_z}
use Rattle.std.proofs.lemmas.Option.{get_or_from_slice_get}
use Rattle.bean_lots.specs.declared.lot.Key.{Key}
use Rattle.posting_table.specs.Decimals.{decimals_of}
use Rattle.number_texts.proofs.PrintableFacts.{Printable}
use Rattle.theory.specs.Joined.{gap_before}
use Rattle.cell_texts.specs.CellText.{between_entries, entries_text, units_text}
use Rattle.cell_texts.proofs.InventoryFacts.{gap_next, next_is, next_printable}
use Rattle.cell_texts.proofs.inventories.push_plain.Goals as goal

pub loop-place-preserved : goal.loop-place-preserved
loop-place-preserved c =
    let display = decimals_of c.args.display.now in
    let places = c.args.places in
    let entries = c.args.entries.now in
    let i = c.loop-place.place in
    let entry = c.entry-entry.result in
    let is = sym (get_or_from_slice_get entries i entry entry c.entry-entry.ensures) in
    let so_far = entries_text display places (take i entries) in
    let gap = gap_before between_entries i in
    let units : ℤ → List ℕ → List ℕ = λ n currency. units_text display n places currency in
    let own = units entry.count entry.key.currency in
    let fits : FitsSigned w128 entry.count = search rules in
    let count = ap (λ n. to_z w128 (of_z w128 n)) c.count.ensures ∙ to_z-of_z w128 entry.count fits in
    let currency = c.currency.ensures ∙ ap (λ (k : Key). k.currency) c.key.ensures in
    let within : i < length entries = omega (arith, c.loop-place-test.true) in record {
      text = c.in_ok-push_held.ensures.text
          ∙ (λ k. c.loop-place.invariant.text k ++ (units (count k) (currency k) ++ between_entries))
          ∙ append_assoc c.args.out.now.items (so_far ++ gap) (own ++ between_entries)
          ∙ ap (λ l. c.args.out.now.items ++ l)
          (sym (append_assoc (so_far ++ gap) own between_entries)
          ∙ ap (λ l. l ++ between_entries)
          (append_assoc so_far gap own
          ∙ sym (next_is display places entries i entry within is c.requires.plain))
          ∙ ap (λ l. entries_text display places (take (i + 1) entries) ++ l) (sym (gap_next i)));
      printable = next_printable display places entries i entry within is
          c.requires.plain c.loop-place.invariant.printable
          (subst Printable (λ k. units (count k) (currency k)) c.in_ok-push_held.ensures.printable);
    }
