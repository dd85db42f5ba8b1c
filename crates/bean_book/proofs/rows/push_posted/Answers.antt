use Rattle.std.proofs.Common.{◌≡◌, ◌+◌, ◌++◌, ◌∷◌, [], ap, append_assoc, arith, get_or, length, map}
use Rattle.std.proofs.Common.{length-append}
use Rattle.std.proofs.Common.{slice_get, subst, sym, take, ◌∙◌}
use Rattle.std.proofs.lemmas.List.{length-map, length-take-le, map-append, take_more}
use Rattle.std.proofs.Common.{ℕ, ◌<◌, List, Option, Some, IfSome}
use Rattle.std.specs.List.{AllByRecursion}
use Rattle.bean_postings.specs.declared.posting.Posting.{Posting}
use Rattle.bean_interp.specs.Residual.{IsLight}
use Rattle.bean_replay.proofs.SmallListFacts.{all_unmapped}
use Rattle.bean_replay.proofs.SmallPlaceFacts.{found_at}
use Rattle.bean_replay.specs.Small.{IsSmallPosted}
use Rattle.bean_transactions.specs.Tried.{booked_leg, booked_legs}
use Rattle.bean_holdings.specs.declared.posted.Posted.{Posted}
use Rattle.posting_table.specs.Ledger.{Ledger}
use Rattle.posting_table.specs.Plain as plain
use Rattle.posting_table.specs.Shaped.{IsShaped}
use Rattle.posting_entries.specs.declared.entry.EntryParts.{EntryParts}
use Rattle.posting_table.specs.declared.row.Row.{Row}
use Rattle.bean_replay.specs.declared.booking.Kept.{Kept}
use Rattle.bean_base.specs.declared.span.Place.{Place}
use Rattle.bean_directives.specs.declared.transaction.Transaction.{Transaction}
use Rattle.bean_book.specs.Tame.{IsTameKept}
use Rattle.query_rows.specs.ColumnShape.{widest}
use Rattle.posting_table.proofs.PartFacts.{row_lies}
use Rattle.posting_entries.specs.declared.metadata.MetaItem.{MetaItem}
use Rattle.bean_book.specs.Rows.{entry_of, items_in, row_by, row_of}
use Rattle.bean_book.specs.declared.details.Details.{Details}
use Rattle.posting_table.specs.Parts.{HasShortTexts}
use Rattle.bean_book.proofs.ShapedFacts.{entry_short, row_small}
use Rattle.bean_book.proofs.rows.push_posted.Goals as goal

-- one of light postings is light
light_at : (ps : List Posting) (posted : List Posted) (i : ℕ) (p : Posted) → i < length posted
    → p ≡ get_or posted i p → AllByRecursion IsLight (booked_legs ps posted)
    → IsLight (booked_leg ps p)
light_at ps posted i p within is light =
    found_at (λ (q : Posted). IsLight (booked_leg ps q)) posted i p within is
    (all_unmapped (λ (q : Posted). IsLight (booked_leg ps q)) IsLight (booked_leg ps) (λ q h. h)
    posted light)

-- the written postings of a transaction, of what is at hand of it
postings_of : (k : Kept) (t : Transaction) (ps : List Posting) → t ≡ k.written.transaction
    → ps ≡ t.postings → ps ≡ k.written.transaction.postings
postings_of k t ps same are = are ∙ ap (λ (t : Transaction). t.postings) same

pub push_full-requires-clause-light : goal.push_full-requires-clause-light
push_full-requires-clause-light c =
    let k = c.args.kept.now in
    let posted = c.as_slice-one-items.result.now in
    subst (λ ps. IsLight (booked_leg ps c.one-item.result))
    (sym (postings_of k c.transaction.result.now _ c.transaction.ensures c.as_slice-postings.ensures))
    (light_at k.written.transaction.postings posted c.loop-one.one-index c.one-item.result
    (omega arith) c.one-item.is
    (subst (λ l. AllByRecursion IsLight (booked_legs k.written.transaction.postings l))
    (sym c.as_slice-one-items.ensures) c.requires.tame.small.light))

-- what holds of something that is there
given_some : {X : Type 0} (P : X → Type 0) (o : Option X) (x : X) → o ≡ Some x → IfSome o P → P x
given_some P o x is h = subst (λ q. IfSome q P) is h

-- the row of a booked posting of a tame transaction lies in the widest shapes
lies : (details : Details) (k : Kept) (e : EntryParts) (posted : List Posted) (i : ℕ) (p : Posted)
    (row : Row)
    → IsTameKept k → e ≡ entry_of details k
    → posted ≡ k.postings → i < length posted → p ≡ get_or posted i p
    → row ≡ row_of details e k.written.place.line k.written.transaction.postings p
    → IsShaped widest row
lies details k e posted i p row tame common same within at is =
    let texts = subst HasShortTexts (sym common) (entry_short details k tame) in
    let ps = k.written.transaction.postings in
    let line = k.written.place.line in
    let small = tame.small in
    let light = light_at ps posted i p within at
    (subst (λ l. AllByRecursion IsLight (booked_legs ps l)) (sym same) small.light) in
    let own = found_at IsSmallPosted posted i p within at
    (subst (AllByRecursion IsSmallPosted) (sym same) small.postings) in
    subst (IsShaped widest) (sym is)
    (row_lies (row_of details e line ps p)
    (row_small details e line ps p texts own light small.transaction.postings
    small.line))

-- one row more
one_more : (details : Details) (k : Kept) (e : EntryParts) (items : List Posted) (i : ℕ)
    (p : Posted) → items ≡ k.postings → i < length items → p ≡ get_or items i p
    → map (row_of details e k.written.place.line k.written.transaction.postings)
    (take (i + 1) k.postings)
    ≡ map (row_of details e k.written.place.line k.written.transaction.postings)
    (take i k.postings)
    ++ row_of details e k.written.place.line k.written.transaction.postings p ∷ []
one_more details k e items i p are within at =
    let row = row_of details e k.written.place.line k.written.transaction.postings in
    ap (λ l. map row (take (i + 1) l)) (sym are)
    ∙ ap (map row) (take_more items i p within)
    ∙ map-append row (take i items) (get_or items i p ∷ [])
    ∙ ap (λ q. map row (take i items) ++ row q ∷ []) (sym at)
    ∙ ap (λ l. map row (take i l) ++ row p ∷ []) are

-- rows with one more behind them
behind : (details : Details) (k : Kept) (e : EntryParts) (old new before : List Row) (row : Row)
    (i : ℕ) (p : Posted) (items : List Posted)
    → new ≡ before ++ row ∷ []
    → before ≡ old ++ map (row_of details e k.written.place.line k.written.transaction.postings)
    (take i k.postings)
    → row ≡ row_of details e k.written.place.line k.written.transaction.postings p
    → items ≡ k.postings → i < length items → p ≡ get_or items i p
    → new ≡ old ++ map (row_of details e k.written.place.line k.written.transaction.postings)
    (take (i + 1) k.postings)
behind details k e old new before row i p items pushed was is are within at =
    let row_at = row_of details e k.written.place.line k.written.transaction.postings in
    pushed ∙ (λ j. was j ++ is j ∷ [])
    ∙ append_assoc old (map row_at (take i k.postings)) (row_at p ∷ [])
    ∙ ap (λ l. old ++ l) (sym (one_more details k e items i p are within at))

-- the row of a posting, of what is at hand of its transaction, and of its metadata
own_row : (details : Details) (k : Kept) (at : Place) (t : Transaction) (e : EntryParts)
    (ps : List Posting) (items : List MetaItem) (p : Posted)
    → at ≡ k.written.place → t ≡ k.written.transaction → ps ≡ t.postings
    → items ≡ items_in details (slice_get ps p.written)
    → row_by e at.line items (slice_get ps p.written) p
    ≡ row_of details e k.written.place.line k.written.transaction.postings p
own_row details k at t e ps items p there same are noted =
    ap (λ its. row_by e at.line its (slice_get ps p.written) p) noted
    ∙ (λ i. row_of details e (there i).line (postings_of k t ps same are i) p)

pub push_full-requires-clause-shaped : goal.push_full-requires-clause-shaped
push_full-requires-clause-shaped c =
    let k = c.args.kept.now in
    let e = c.args.entry.now in
    let p = c.one-item.result in
    lies c.args.details k e c.as_slice-one-items.result.now c.loop-one.one-index p _
    c.requires.tame c.requires.entry c.as_slice-one-items.ensures (omega arith) c.one-item.is
    (own_row c.args.details k c.place-line.result c.transaction.result.now e
    c.as_slice-postings.result.now _ p c.place-line.ensures c.transaction.ensures
    c.as_slice-postings.ensures c.in_ok-go_on.ensures.items)

pub push_plain-requires-clause-shaped : goal.push_plain-requires-clause-shaped
push_plain-requires-clause-shaped c =
    let k = c.args.kept.now in
    let e = c.args.entry.now in
    let line = k.written.place.line in
    let p = c.one-item.result in
    lies c.args.details k e c.as_slice-one-items.result.now c.loop-one.one-index p
    (plain.row_of c.in-Some.plain)
    c.requires.tame c.requires.entry c.as_slice-one-items.ensures (omega arith) c.one-item.is
    (given_some _ _ c.in-Some.plain c.in-Some.is c.in_ok-plain.ensures c.args.details line
    ∙ ap (λ ps. row_of c.args.details e line ps p)
    (postings_of k c.transaction.result.now _ c.transaction.ensures c.as_slice-postings.ensures))

pub push_full-requires-clause-room : goal.push_full-requires-clause-room
push_full-requires-clause-room c =
    let k = c.args.kept.now in
    let e = c.args.entry.now in
    let room = c.requires.room in
    let row = row_of c.args.details e k.written.place.line k.written.transaction.postings in
    let taken = take c.loop-one.one-index k.postings in
    let before =
    ap length c.loop-one.invariant.rows ∙ length-append c.args.ledger.now.rows (map row taken)
    in
    let as_many = length-map taken row in
    let count = ap length c.as_slice-one-items.ensures in
    let few = length-take-le c.loop-one.one-index k.postings (omega (arith, count)) in
    omega (arith, room, before, as_many, few, count)

pub push_plain-requires-clause-room : goal.push_plain-requires-clause-room
push_plain-requires-clause-room c =
    let k = c.args.kept.now in
    let e = c.args.entry.now in
    let room = c.requires.room in
    let row = row_of c.args.details e k.written.place.line k.written.transaction.postings in
    let taken = take c.loop-one.one-index k.postings in
    let before =
    ap length c.loop-one.invariant.rows ∙ length-append c.args.ledger.now.rows (map row taken)
    in
    let as_many = length-map taken row in
    let count = ap length c.as_slice-one-items.ensures in
    let few = length-take-le c.loop-one.one-index k.postings (omega (arith, count)) in
    omega (arith, room, before, as_many, few, count)

pub loop-one-preserved-in-Some : goal.loop-one-preserved-in-Some
loop-one-preserved-in-Some c =
    let k = c.args.kept.now in
    let e = c.args.entry.now in
    let line = k.written.place.line in
    let p = c.one-item.result in record {
      rows = behind c.args.details k e c.args.ledger.now.rows _ _ (plain.row_of c.in-Some.plain)
          c.loop-one.one-index p c.as_slice-one-items.result.now
          (ap (λ (l : Ledger). l.rows) c.in_ok-push_plain.ensures.pushed)
          c.loop-one.invariant.rows
          (given_some _ _ c.in-Some.plain c.in-Some.is c.in_ok-plain.ensures c.args.details line
          ∙ ap (λ ps. row_of c.args.details e line ps p)
          (postings_of k c.transaction.result.now _ c.transaction.ensures c.as_slice-postings.ensures))
          c.as_slice-one-items.ensures (omega arith) c.one-item.is;
      decimals = ap (λ (l : Ledger). l.decimals) c.in_ok-push_plain.ensures.pushed
          ∙ c.loop-one.invariant.decimals;
      noted = c.loop-one.invariant.noted;
    }

pub loop-one-preserved : goal.loop-one-preserved
loop-one-preserved c =
    let k = c.args.kept.now in
    let e = c.args.entry.now in
    let p = c.one-item.result in record {
      rows = behind c.args.details k e c.args.ledger.now.rows _ _ _ c.loop-one.one-index p
          c.as_slice-one-items.result.now c.in_ok-push_full.ensures.rows c.loop-one.invariant.rows
          (own_row c.args.details k c.place-line.result c.transaction.result.now e
          c.as_slice-postings.result.now _ p c.place-line.ensures c.transaction.ensures
          c.as_slice-postings.ensures c.in_ok-go_on.ensures.items)
          c.as_slice-one-items.ensures (omega arith) c.one-item.is;
      decimals = c.in_ok-push_full.ensures.decimals ∙ c.loop-one.invariant.decimals;
      noted = c.in_ok-go_on.ensures.items
          ∙ ap (λ n. items_in c.args.details (slice_get c.as_slice-postings.result.now n))
          (sym c.in_ok-go_on.ensures.number);
    }
