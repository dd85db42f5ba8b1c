use Rattle.std.proofs.Common.{arith, Some, ap, ◌∙◌}
use Rattle.bean_postings.specs.CostPart.{put}
use Rattle.bean_postings.proofs.CostPartFacts.{first_part, no_first_part, next_part, part_twice}
use Rattle.bean_postings.proofs.CostPartFacts.{no_next_part, last_part}
use Rattle.bean_postings.proofs.cost_part.cost_parts.Goals as goal

pub returns-in_err-first-clause-read : goal.returns-in_err-first-clause-read
returns-in_err-first-clause-read c =
    rw c.from_residual.ensures (no_first_part _ c.in_err-first.ensures.read)

pub loop-after-init : goal.loop-after-init
loop-after-init c =
    record {
      no_longer = c.in_ok-first.ensures.no_longer;
      read =
          first_part _ _ _ _ c.in_ok-first.ensures.read
          (c.in_ok-parts.ensures ∙ ap (λ x. put (Some x) c.in_ok-first.first) c.none.ensures);
    }

pub returns-in_err-next-clause-read : goal.returns-in_err-next-clause-read
returns-in_err-next-clause-read c =
    rw c.from_residual-in_err-next.ensures
    (no_next_part _ _ _ _ c.loop-after.invariant.read c.in-Some.ensures.front
    c.in_err-next.ensures.read)

pub returns-in_err-parts-2-clause-read : goal.returns-in_err-parts-2-clause-read
returns-in_err-parts-2-clause-read c =
    rw c.from_residual-in_err-parts-2.ensures
    (part_twice _ _ _ _ _ _ c.loop-after.invariant.read c.in-Some.ensures.front
    c.in_ok-next.ensures.read c.in_err-parts-2.ensures)

pub loop-after-preserved : goal.loop-after-preserved
loop-after-preserved c = record {
  no_longer =
      omega (
        arith,
        c.in-Some.ensures.shorter,
        c.in_ok-next.ensures.no_longer,
        c.loop-after.invariant.no_longer,
      );
  read = next_part _ _ _ _ _ _ _ c.loop-after.invariant.read c.in-Some.ensures.front
      c.in_ok-next.ensures.read c.in_ok-parts-2.ensures;
}

pub returns-clause-read : goal.returns-clause-read
returns-clause-read c = last_part _ _ _ c.loop-after.invariant.read c.in_default.ensures.front
