use Rattle.std.proofs.Common.{◌≡◌, ◌≤◌, ◌-◌, ◌++◌, ◌∷◌, ap, append_assoc, arith, drop, length}
use Rattle.std.proofs.Common.{length-append, refl, subst, suc, sym, take, true≢false, zero, ℕ, ◌<◌, ◌∙◌}
use Rattle.std.specs.List.{AllByRecursion}
use Rattle.std.proofs.lemmas.List.{take_all}
use Rattle.std.proofs.lemmas.Result.{on_ok_weaker}
use Rattle.limits.specs.declared.counts.TheConstants.{MOST_POSTINGS}
use Rattle.bean_replay.proofs.StepFacts.{empty}
use Rattle.posting_table.specs.Ledger.{Ledger}
use Rattle.bean_replay.specs.Small.{IsSmallNoted}
use Rattle.bean_book.specs.Rows.{rows_of_pad}
use Rattle.bean_book.specs.Taken.{with_rows}
use Rattle.bean_book.proofs.TakenFacts.{pad_within}
use Rattle.bean_book.proofs.ledger.put_pads.Goals as goal
use Rattle.bean_book.proofs.ledger.put_pads.Goals.{in-Some-next+in_ok-put_pad, in_default}

none_promised : (n : ℕ) → (0 < n → ⊥) → n ≡ 0
none_promised zero h = refl
none_promised (suc n) h = absurd (h (omega arith))

pub put_pad-requires-clause-room : goal.put_pad-requires-clause-room
put_pad-requires-clause-room c =
    let details = c.args.details in
    let l = c.loop-noted in
    let places = c.next-in-loop-noted.new.self.rest.items in
    let pads = c.next.new.self.rest.items in
    let place = c.in-Some-next.ensures.items in
    let next = c.in-Some.ensures.steps.0 in
    let whole =
    ap length
    ((λ i. l.ledger.rows ++ with_rows details l.passed l.rest (sym place i) (sym next i)) ∙ l.invariant.rows)
    in
    let both = length-append l.ledger.rows
    (with_rows details l.passed l.rest (c.in-Some-next.place ∷ places) (c.in-Some.noted ∷ pads)) in
    let own = pad_within details l.passed c.in-Some-next.place l.rest places c.in-Some.noted pads in
    let room = c.requires.room in omega (arith, room, whole, both, own)

pub loop-noted-preserved : goal.loop-noted-preserved
loop-noted-preserved c =
    let details = c.args.details in
    let l = c.loop-noted in
    let now = c.match-next-2 in
    let places = c.next-in-loop-noted.new.self.rest.items in
    let pads = c.next.new.self.rest.items in
    let noted = c.in-Some.noted in
    let next = c.in-Some.ensures.steps.0 in
    let small = (subst (AllByRecursion IsSmallNoted) next l.invariant.small).1 in
    elim now.branch [
      | in-Some-next+in_ok-put_pad w ↦
          let place = w.in-Some-next.place in
          let behind = w.in-Some-next.ensures.items in
          let put = w.in_ok-put_pad.ensures in
          let gap : w.saturating_sub-count.result ≡ place - l.passed = w.saturating_sub-count.ensures in
          record {
            rows = (λ i. (w.ledger-is i).rows ++ with_rows details (w.passed-is i) (w.rest-is i) places pads)
                ∙ (λ i. put.rows i ++ with_rows details place (put.rest i) places pads)
                ∙ ap (λ n. (l.ledger.rows ++ (take n l.rest ++ rows_of_pad details noted))
                ++ with_rows details place (drop n l.rest) places pads) gap
                ∙ append_assoc l.ledger.rows (take (place - l.passed) l.rest ++ rows_of_pad details noted)
                (with_rows details place (drop (place - l.passed) l.rest) places pads)
                ∙ (λ i. l.ledger.rows ++ with_rows details l.passed l.rest (sym behind i) (sym next i))
                ∙ l.invariant.rows;
            decimals = ap (λ (t : Ledger). t.decimals) w.ledger-is ∙ put.decimals
                ∙ l.invariant.decimals;
            small = small;
          }
      | in_default w ↦
          let left = l.left.rest in
          let count = left.ok.0 in
          let zero =
          none_promised left.len (λ more. true≢false (sym (w.in_default.ensures.variant.1 more))) in
          let none = empty left.items (omega (arith, count, zero)) in
          let after = sym w.in_default.ensures.items ∙ none in
          record {
            rows = (λ i. (w.ledger-is i).rows ++ with_rows details (w.passed-is i) (w.rest-is i) (after i) pads)
                ∙ (λ i. l.ledger.rows ++ with_rows details l.passed l.rest (sym none i) (sym next i))
                ∙ l.invariant.rows;
            decimals = ap (λ (t : Ledger). t.decimals) w.ledger-is ∙ l.invariant.decimals;
            small = small;
          }
    ]

pub returns-clause-rows : goal.returns-clause-rows
returns-clause-rows c =
    let details = c.args.details in
    let l = c.loop-noted in
    let left = l.noted-iterator.rest in
    let count = left.ok.0 in
    let done = c.in-None.ensures.steps.0 in
    let none = empty left.items (omega (arith, count, done)) in
    let whole =
    sym (ap (λ qs. l.ledger.rows ++ with_rows details l.passed l.rest l.left.rest.items qs) none)
    ∙ l.invariant.rows in
    let as_many = ap length whole in
    let both = length-append l.ledger.rows l.rest in
    let room = c.requires.room in
    let few : length l.rest ≤ MOST_POSTINGS = omega (arith, as_many, both, room) in
    on_ok_weaker c.put_back.result
    (λ put.
    ap (λ (t : Ledger). t.rows) put
    ∙ ap (λ rs. l.ledger.rows ++ rs) (take_all MOST_POSTINGS l.rest few) ∙ whole)
    c.put_back.ensures.put
