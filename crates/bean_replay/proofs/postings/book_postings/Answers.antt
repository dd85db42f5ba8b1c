use Rattle.std.proofs.Common.{◌≡◌, ◌++◌, ◌∷◌, [], append_assoc, take, arith, ap, sym, ◌∙◌, subst}
use Rattle.std.proofs.Common.{get_or, slice_set}
use Rattle.bean_accounts.specs.Log.{with_found}
use Rattle.bean_holdings.specs.Holdings.{AreHeld}
use Rattle.bean_replay.specs.Stand as spec
use Rattle.bean_replay.proofs.StepFacts.{found_more, taken_more, written_same}
use Rattle.bean_replay.proofs.postings.book_postings.Goals as goal

pub loop-index-preserved : goal.loop-index-preserved
loop-index-preserved c =
    let posted = c.args.posted.now in
    let i = c.loop-index.index in
    let item = c.index-posted-index.result in
    let same = c.loop-index.invariant.posted in
    let at = c.index-posted-index.is in
    let is : item ≡ get_or posted i item = at ∙ ap (λ l. get_or l i item) same in record {
      posted =
          ap (slice_set c.loop-index.posted i) (c.in_ok-book_posting.ensures.posted ∙ sym at)
          ∙ written_same c.loop-index.posted i item at ∙ same;
      kept = λ past kept.
          c.in_ok-book_posting.ensures.kept past (c.loop-index.invariant.kept past kept);
      faults = λ past kept.
          found_more (spec.posted_faults past c.args.at c.args.postings.now) posted i item
          c.args.faults.now c.loop-index.faults c.book_posting.new.faults
          (omega arith) is (c.loop-index.invariant.faults past kept)
          (subst (λ p. c.book_posting.new.faults
          ≡ with_found (spec.posted_faults past c.args.at c.args.postings.now p) c.loop-index.faults)
          (sym at)
          (c.in_ok-book_posting.ensures.faults past (c.loop-index.invariant.kept past kept)));
      bounded = c.in_ok-book_posting.ensures.bounded;
      additions =
          let was = c.loop-index.invariant.additions in
          let more = c.in_ok-book_posting.ensures.additions in omega arith;
      held = λ ps held.
          let more =
          append_assoc ps (take i posted) (item ∷ [])
          ∙ ap (λ l. ps ++ l) (sym (taken_more posted i item (omega arith) is)) in
          subst (λ ps. AreHeld ps c.book_posting.new.holdings) more
          (subst (λ p. AreHeld ((ps ++ take i posted) ++ p ∷ []) c.book_posting.new.holdings) (sym at)
          (c.in_ok-book_posting.ensures.held (ps ++ take i posted)
          (c.loop-index.invariant.held ps held)));
    }
