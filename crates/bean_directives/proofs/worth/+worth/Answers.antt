use Rattle.std.proofs.Common.{arith, ap}
use Rattle.theory.proofs.RowFacts.{row_begins, row_goes_on, row_is_read, none_in_row, no_row}
use Rattle.bean_lexer.specs.declared.kind.Sign.TheVariants.{Star}
use Rattle.bean_grammar.specs.Lexeme.{begins_with_sign, begins_with_plus_or_minus}
use Rattle.bean_grammar.specs.Expression.{exactly, product, sum, factor}
use Rattle.bean_grammar.proofs.ExpressionFacts.{another_factor, another_product, with_product}
use Rattle.bean_grammar.proofs.ExpressionFacts.{product_ends, factor_separates, factor_told}
use Rattle.bean_grammar.proofs.ExpressionFacts.{factor_begins, sum_ends, product_separates}
use Rattle.bean_grammar.proofs.ExpressionFacts.{product_told, product_begins, reads_another}
use Rattle.bean_grammar.proofs.ExpressionFacts.{none_another, present_sign, signed_factor}
use Rattle.bean_grammar.proofs.ExpressionFacts.{no_room_for_sign, none_behind_sign, group_factor}
use Rattle.bean_grammar.proofs.ExpressionFacts.{no_room_for_group, none_in_group, not_shut}
use Rattle.bean_grammar.proofs.ExpressionFacts.{literal_factor, no_factor_here, reads_star}
use Rattle.bean_grammar.proofs.ExpressionFacts.{none_star, sum_stops}
use Rattle.exact_numbers.specs.Exact.{product_of}
use Rattle.bean_directives.proofs.HeadFacts.{when_some, when_none, when_present}
use Rattle.bean_directives.proofs.worth.+worth.Goals as goal

pub factor-returns-then-room-eq0-clause-read : goal.factor-returns-then-room-eq0-clause-read
factor-returns-then-room-eq0-clause-read t c =
    no_room_for_sign exactly _ _ _ _ c.in-Some.ensures.front c.if-room-eq0.true

pub factor-returns-in_default-2-clause-read : goal.factor-returns-in_default-2-clause-read
factor-returns-in_default-2-clause-read t c =
    none_behind_sign exactly _ _ _ _ c.in-Some.ensures.front
    (when_none _ _ _ c.in_default-2.not-Some c.in_ok-found.ensures.read)

pub factor-returns-in-Some-clause-read : goal.factor-returns-in-Some-clause-read
factor-returns-in-Some-clause-read t c =
    rw c.signed.ensures
    (signed_factor exactly _ _ _ _ _ _ c.in-Some.ensures.front (omega arith)
    (when_some _ _ _ _ c.in-Some-2.is c.in_ok-found.ensures.read))

pub factor-returns-then-room-eq0-2-clause-read : goal.factor-returns-then-room-eq0-2-clause-read
factor-returns-then-room-eq0-2-clause-read t c =
    no_room_for_group exactly _ _ _ c.in-Some-after_sign.ensures.front c.if-room-eq0-2.true

pub factor-returns-in_default-3-clause-read : goal.factor-returns-in_default-3-clause-read
factor-returns-in_default-3-clause-read t c =
    none_in_group exactly _ _ _ c.in-Some-after_sign.ensures.front
    (when_none _ _ _ c.in_default-3.not-Some c.in_ok-inner.ensures.read)

pub factor-returns-in_default-after_sign-2-clause-read :
    goal.factor-returns-in_default-after_sign-2-clause-read
factor-returns-in_default-after_sign-2-clause-read t c =
    not_shut exactly _ _ _ _ _ c.in-Some-after_sign.ensures.front
    (when_some _ _ _ _ c.in-Some-3.is c.in_ok-inner.ensures.read)
    c.in_default-after_sign-2.ensures.front

pub factor-returns-in-Some-after_sign-clause-read :
    goal.factor-returns-in-Some-after_sign-clause-read
factor-returns-in-Some-after_sign-clause-read t c =
    group_factor exactly _ _ _ _ _ _ c.in-Some-after_sign.ensures.front (omega arith)
    (when_some _ _ _ _ c.in-Some-3.is c.in_ok-inner.ensures.read)
    c.in-Some-after_sign-2.ensures.front

pub factor-returns-in_default-after_number-clause-read :
    goal.factor-returns-in_default-after_number-clause-read
factor-returns-in_default-after_number-clause-read t c =
    no_factor_here exactly _ _ c.in_default.ensures.front c.in_default-after_sign.ensures.front
    c.in_default-after_number.ensures.front

pub factor-returns-clause-read : goal.factor-returns-clause-read
factor-returns-clause-read t c =
    rw c.in_ok-written.ensures (literal_factor exactly _ _ _ _ c.in-Some-after_number.ensures.front)

pub product-returns-in_default-clause-read : goal.product-returns-in_default-clause-read
product-returns-in_default-clause-read t c =
    no_row (begins_with_sign Star) (factor exactly _) (λ v. v) (another_factor exactly _) product_of
    _ (factor_begins exactly _)
    (when_none _ _ _ c.in_default.not-Some c.in_ok-first.ensures.read)

pub product-loop-after-init : goal.product-loop-after-init
product-loop-after-init t c = record {
  shorter = when_present _ _ _ c.in-Some.is c.in_ok-first.ensures.shorter;
  read = row_begins (begins_with_sign Star) (factor exactly _) (λ v. v) (another_factor exactly _)
      product_of _ _ _ (factor_begins exactly _)
      (when_some _ _ _ _ c.in-Some.is c.in_ok-first.ensures.read);
}

pub product-returns-in_default-2-clause-read : goal.product-returns-in_default-2-clause-read
product-returns-in_default-2-clause-read t c =
    none_in_row (begins_with_sign Star) (product exactly _) (another_factor exactly _) product_of _
    _ _ (product_ends exactly _) (factor_separates exactly _) c.loop-after.invariant.read
    (ap (begins_with_sign Star) c.in-Some-after_sign.ensures.front)
    (none_star exactly _ _ _ c.in-Some-after_sign.ensures.front
    (when_none _ _ _ c.in_default-2.not-Some c.in_ok-next.ensures.read))

pub product-loop-after-preserved : goal.product-loop-after-preserved
product-loop-after-preserved t c =
    let shorter = when_present _ _ _ c.in-Some-2.is c.in_ok-next.ensures.shorter in
    record {
      shorter =
          omega (
            arith,
            shorter,
            c.in-Some-after_sign.ensures.shorter,
            c.loop-after.invariant.shorter,
          );
      read = rw c.in_ok-value.ensures
          (row_goes_on (begins_with_sign Star) (product exactly _) (another_factor exactly _)
          product_of _ _ _ _ _ (product_ends exactly _) (factor_separates exactly _)
          (factor_told exactly _) c.loop-after.invariant.read
          (reads_star exactly _ _ _ _ _ c.in-Some-after_sign.ensures.front
          (when_some _ _ _ _ c.in-Some-2.is c.in_ok-next.ensures.read)));
    }

pub product-returns-clause-read : goal.product-returns-clause-read
product-returns-clause-read t c =
    row_is_read (begins_with_sign Star) (product exactly _) (another_factor exactly _) product_of _
    _ _ (factor_told exactly _) c.loop-after.invariant.read c.in_default-after_sign.ensures.front

pub sum-returns-in_default-clause-read : goal.sum-returns-in_default-clause-read
sum-returns-in_default-clause-read t c =
    no_row begins_with_plus_or_minus (product exactly _) (λ v. v) (another_product exactly _)
    (with_product exactly) _ (product_begins exactly _)
    (when_none _ _ _ c.in_default.not-Some c.in_ok-first.ensures.read)

pub sum-loop-is_minus-init : goal.sum-loop-is_minus-init
sum-loop-is_minus-init t c = record {
  shorter = when_present _ _ _ c.in-Some.is c.in_ok-first.ensures.shorter;
  ends = when_present _ _ _ c.in-Some.is c.in_ok-first.ensures.ends;
  read = rw c.of-value.ensures
      (row_begins begins_with_plus_or_minus (product exactly _) (λ v. v)
      (another_product exactly _) (with_product exactly) _ _ _ (product_begins exactly _)
      (when_some _ _ _ _ c.in-Some.is c.in_ok-first.ensures.read));
}

pub sum-returns-in_default-2-clause-read : goal.sum-returns-in_default-2-clause-read
sum-returns-in_default-2-clause-read t c =
    none_in_row begins_with_plus_or_minus (sum exactly _) (another_product exactly _)
    (with_product exactly) _ _ _ (sum_ends exactly _) (product_separates exactly _)
    c.loop-is_minus.invariant.read
    (present_sign _ _ _ c.in-Some-after_plus_or_minus.ensures.front)
    (none_another exactly _ _ _ _ c.in-Some-after_plus_or_minus.ensures.front
    (when_none _ _ _ c.in_default-2.not-Some c.in_ok-next.ensures.read))

pub sum-loop-is_minus-preserved : goal.sum-loop-is_minus-preserved
sum-loop-is_minus-preserved t c =
    let shorter = when_present _ _ _ c.in-Some-2.is c.in_ok-next.ensures.shorter in
    record {
      shorter =
          omega (
            arith,
            shorter,
            c.in-Some-after_plus_or_minus.ensures.shorter,
            c.loop-is_minus.invariant.shorter,
          );
      ends = when_present _ _ _ c.in-Some-2.is c.in_ok-next.ensures.ends;
      read = rw c.in_ok-value.ensures
          (row_goes_on begins_with_plus_or_minus (sum exactly _) (another_product exactly _)
          (with_product exactly) _ _ _ _ _ (sum_ends exactly _) (product_separates exactly _)
          (product_told exactly _) c.loop-is_minus.invariant.read
          (reads_another exactly _ _ _ _ _ _ c.in-Some-after_plus_or_minus.ensures.front
          (when_some _ _ _ _ c.in-Some-2.is c.in_ok-next.ensures.read)));
    }

pub sum-returns-clause-ends : goal.sum-returns-clause-ends
sum-returns-clause-ends t c =
    sum_stops exactly _ _ c.loop-is_minus.invariant.ends
    c.in_default-after_plus_or_minus.ensures.front

pub sum-returns-clause-read : goal.sum-returns-clause-read
sum-returns-clause-read t c =
    rw c.in_ok-into_product.ensures
    (row_is_read begins_with_plus_or_minus (sum exactly _) (another_product exactly _)
    (with_product exactly) _ _ _ (product_told exactly _) c.loop-is_minus.invariant.read
    c.in_default-after_plus_or_minus.ensures.front)
