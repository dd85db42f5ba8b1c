use Rattle.std.proofs.Common.{arith, sym, subst, length, ◌<◌, ◌∷◌, []}
use Rattle.std.proofs.lemmas.List.{length-append}
use Rattle.std.proofs.lemmas.List.Elements.{All-push}
use Rattle.limits.specs.declared.counts.TheConstants.{MOST_POSTINGS}
use Rattle.posting_table.specs.Shaped.{IsShaped}
use Rattle.posting_table.specs.Plain as plain
use Rattle.query_rows.specs.ColumnShape.{widest}
use Rattle.posting_table.proofs.FitFacts.{few_units}
use Rattle.posting_table.proofs.ledger.Ledger.push_plain.Goals as goal

pub invariant_of-self-in_err-push : goal.invariant_of-self-in_err-push
invariant_of-self-in_err-push c = rw c.in_err-push.ensures.unchanged c.self.invariant

pub invariant_of-self-2 : goal.invariant_of-self-2
invariant_of-self-2 c =
    let items = c.self.inside.rows in
    let row = c.in_ok-row.row in
    let room : length items < MOST_POSTINGS =
    subst (λ l. length l.rows < MOST_POSTINGS) (sym c.self.view_is) c.requires.room in
    let longer = length-append items (row ∷ []) in
    let is = subst (IsShaped widest) (sym c.in_ok-row.ensures) c.requires.shaped in
    rw c.in_ok-push.ensures.pushed
    (omega (arith, room, longer), All-push (IsShaped widest) items row c.self.invariant.1 is)

pub plain-requires : goal.plain-requires
plain-requires c = few_units (plain.row_of c.args.row) c.requires.shaped
