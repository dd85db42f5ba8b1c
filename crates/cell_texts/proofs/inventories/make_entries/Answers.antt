use Rattle.std.proofs.Common.{◌++◌, take, map, sym, ap, ◌∙◌, arith}
use Rattle.std.proofs.Common.{append_assoc, rules, to_z, of_z}
use Rattle.std.specs.Int.{w128}
use Rattle.std.specs.Int.RustNames.{FitsSigned}
use Rattle.std.proofs.lemmas.Int.{to_z-of_z}
use Rattle.std.proofs.lemmas.Option.{get_or_from_slice_get}
use Rattle.posting_table.specs.Decimals.{decimals_of}
use Rattle.theory.specs.Joined.{joined, gap_before}
use Rattle.theory.proofs.JoinedFacts.{joined_next}
use Rattle.cell_texts.specs.CellText.{between_entries, entry_text, text_of_entry}
use Rattle.cell_texts.proofs.inventories.make_entries.Goals as goal

pub loop-place-preserved : goal.loop-place-preserved
loop-place-preserved c =
    let display = decimals_of c.args.display.now in
    let places = c.args.places in
    let entries = c.args.entries.now in
    let i = c.loop-place.place in
    let entry = c.entry-entry.result in
    let is = sym (get_or_from_slice_get entries i entry entry c.entry-entry.ensures) in
    let so_far = joined between_entries (map (text_of_entry display places) (take i entries)) in
    let gap = gap_before between_entries i in
    let fits : FitsSigned w128 entry.count = search rules in
    let count = ap (λ n. to_z w128 (of_z w128 n)) c.count.ensures ∙ to_z-of_z w128 entry.count fits in
    let key = c.key.ensures ∙ c.key-lent.ensures in
    c.in_ok-add_entry.ensures
    ∙ (λ k. c.in_ok-add_between.ensures k ++ entry_text display places (key k) (count k))
    ∙ ap (λ l. (l ++ gap) ++ text_of_entry display places entry) c.loop-place.invariant
    ∙ append_assoc so_far gap (text_of_entry display places entry)
    ∙ sym (joined_next between_entries (text_of_entry display places) entries i entry
    (omega (arith, c.loop-place-test.true)) is)
